pub mod CallsFor
pub mod Leads
