pub mod Sets
pub mod ClearFrames
pub mod Rises
pub mod Seen
pub mod Sharing
pub mod FirstFault
pub mod Deciding
