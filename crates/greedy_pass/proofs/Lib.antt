pub mod Tables
pub mod Process
pub mod Shown
pub mod Due
pub mod Assigned
