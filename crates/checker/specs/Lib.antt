pub mod Check
pub mod Numbers
pub mod Exact
pub mod Cases
pub mod Completed
