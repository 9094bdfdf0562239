pub mod Adding
pub mod Ahead
pub mod ReadTurns
pub mod SaveTurns
