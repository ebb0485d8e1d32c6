pub mod Answer
pub mod Cuts
pub mod Meanings
pub mod Played
pub mod Reading
pub mod Reasons
pub mod Refusals
pub mod Scripts
