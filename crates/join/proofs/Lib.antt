pub mod Main
pub mod Cases
pub mod Refusals
pub mod HeaderText
pub mod Frames
pub mod Outcome
pub mod Whole
pub mod Showing
