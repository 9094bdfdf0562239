pub mod Lines
pub mod Tally
pub mod Reading
