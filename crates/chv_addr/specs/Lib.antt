pub mod AddressMap
pub mod Layout
pub mod Search
