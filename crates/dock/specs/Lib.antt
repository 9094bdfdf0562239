pub mod State
pub mod Records
pub mod Drive
pub mod Parts
