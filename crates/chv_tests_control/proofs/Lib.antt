pub mod AtRest
pub mod FullBanks
