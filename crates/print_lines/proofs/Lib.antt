pub mod Outcome
pub mod Puts
