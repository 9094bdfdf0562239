pub mod Numbers
pub mod Run
pub mod Cycles
pub mod Chain
