pub mod Widths
pub mod Judged
pub mod Main
