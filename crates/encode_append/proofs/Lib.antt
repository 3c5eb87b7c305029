pub mod Moving
pub mod Deciding
pub mod Joining
