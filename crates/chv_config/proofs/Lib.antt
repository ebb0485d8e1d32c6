pub mod Firsts
pub mod DefaultIds
pub mod Twice
pub mod Kept
pub mod Fewer
pub mod GoodIds
pub mod Recheck
