pub mod Lines
pub mod Put
