pub mod Main
pub mod Starting
