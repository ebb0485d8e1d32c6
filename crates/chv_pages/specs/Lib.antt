pub mod Copies
pub mod HeldPages
pub mod Order
