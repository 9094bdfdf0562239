pub mod Join
pub mod Numbers
pub mod Steps
pub mod Showing
pub mod Cases
