pub mod Faultless
pub mod Given
pub mod Outcome
pub mod Says
pub mod Taken
pub mod Words
