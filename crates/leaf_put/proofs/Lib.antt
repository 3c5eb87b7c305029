pub mod Putting
pub mod Leaves
pub mod Lanes
