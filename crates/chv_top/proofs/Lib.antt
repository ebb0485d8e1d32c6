pub mod Saying
pub mod Taking
pub mod Texts
pub mod Words
pub mod OtherWords
mod FaultLemmas
