pub mod Pool
pub mod Log
