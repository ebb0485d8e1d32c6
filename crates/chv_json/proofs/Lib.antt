pub mod Floatless
pub mod Front
pub mod Spelled
pub mod Again
pub mod Levels
