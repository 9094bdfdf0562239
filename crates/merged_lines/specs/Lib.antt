pub mod Merge
pub mod Packed
pub mod Lines
