pub mod Printed
pub mod Sizes
pub mod Cases
