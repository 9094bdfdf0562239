pub mod Limits
pub mod Editions
pub mod Heading
pub mod Numbers
