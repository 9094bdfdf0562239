pub mod Plans
pub mod Filled
