pub mod BankChanges
pub mod Plans
pub mod ZoneCalls
