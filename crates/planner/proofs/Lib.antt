pub mod Main
pub mod Cases
pub mod OneFrame
pub mod Demand
pub mod Answers
