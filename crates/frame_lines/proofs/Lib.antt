pub mod Places
pub mod Faults
pub mod OneLine
pub mod Judging
pub mod WholePart
