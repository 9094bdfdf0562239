pub mod Puts
pub mod Hex
pub mod Again
pub mod Lines
pub mod Digits
pub mod WideNumbers
pub mod Bytes
pub mod UpperCase
