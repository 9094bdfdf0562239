pub mod AsOf
pub mod Pass
