pub mod Main
pub mod Counting
pub mod Ends
pub mod Covered
pub mod Ceilings
pub mod Frames
pub mod Cases
