pub mod Accesses
pub mod LentBanks
pub mod Room
pub mod Laws
