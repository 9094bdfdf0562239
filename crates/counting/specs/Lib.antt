pub mod Count
pub mod Lists
pub mod Frames
pub mod Joined
