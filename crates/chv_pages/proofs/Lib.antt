pub mod Bytes
pub mod Pieces
pub mod Places
pub mod Puts
pub mod Writes
pub mod Views
pub mod Search
