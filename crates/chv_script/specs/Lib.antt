pub mod Answer
pub mod Fields
pub mod Labels
pub mod Laws
pub mod Reads
pub mod Reasons
pub mod Steps
