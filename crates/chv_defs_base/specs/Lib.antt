pub mod Id
pub mod Name
pub mod Numbers
pub mod Reasons
pub mod Rules
pub mod Sizes
