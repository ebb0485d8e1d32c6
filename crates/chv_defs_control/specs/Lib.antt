pub mod ApiStep
pub mod ControlBook
pub mod ControlStep
pub mod FullBooks
pub mod LegalControl
pub mod Machine
pub mod OwnerCalls
pub mod Shown
