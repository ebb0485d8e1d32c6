pub mod ApiCalls
pub mod Changed
pub mod Laws
