pub mod Main
pub mod Own
pub mod Cycles
pub mod Runs
pub mod Chains
