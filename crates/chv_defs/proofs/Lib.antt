pub mod BankOrder
pub mod ScheduleBanks
