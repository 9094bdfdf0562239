pub mod Main
pub mod Laws
pub mod Lines
pub mod Cases
pub mod Values
