pub mod Answered
pub mod Kept
pub mod KeptBanks
pub mod OpenBlocks
pub mod QuietBanks
pub mod QuietSteps
pub mod Refusals
pub mod Settled
