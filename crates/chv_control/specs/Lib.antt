pub mod Control
pub mod OpenBlocks
pub mod Rest
pub mod Shelf
