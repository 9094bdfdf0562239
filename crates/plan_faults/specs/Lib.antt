pub mod Faults
pub mod Searches
