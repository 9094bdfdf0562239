pub mod Main
pub mod Cases
pub mod Numbers
pub mod Accepts
pub mod Answers
pub mod Whole
