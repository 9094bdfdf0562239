pub mod Plan
pub mod Numbers
pub mod Demand3
pub mod Cases
pub mod OneFrame
