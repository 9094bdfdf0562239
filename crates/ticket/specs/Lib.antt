pub mod Ticket
pub mod Seconds
pub mod Grounds
pub mod Print
pub mod Part
