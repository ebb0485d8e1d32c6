pub mod OpenBanks
pub mod ReadLemmas
