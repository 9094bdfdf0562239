pub mod Patterns
pub mod Gather
pub mod Grounds
pub mod Numbers
pub mod Fullest
pub mod Cases
pub mod Words
