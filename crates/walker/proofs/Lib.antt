pub mod Main
pub mod Bytes
pub mod Steps
pub mod Same
