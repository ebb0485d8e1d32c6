pub mod CallerPins
pub mod Caches
pub mod Carried
pub mod Kept
pub mod Laws
