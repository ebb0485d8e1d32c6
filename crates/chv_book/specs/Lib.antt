pub mod PassSeats
pub mod TicketRule
pub mod TicketSteps
pub mod TurnValue
