pub mod Main
pub mod Cases
pub mod Listed
pub mod Outcome
pub mod Short
