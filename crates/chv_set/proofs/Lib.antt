pub mod Members
pub mod RunLists
pub mod SetLists
