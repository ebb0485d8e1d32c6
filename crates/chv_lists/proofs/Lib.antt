pub mod Bools
pub mod Ends
pub mod Located
