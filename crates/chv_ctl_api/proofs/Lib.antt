pub mod Verdicts
pub mod Kept
pub mod Ids
pub mod Fits
pub mod Numbers
