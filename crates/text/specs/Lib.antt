pub mod Text
pub mod Wide
pub mod UpperCase
pub mod Hex
