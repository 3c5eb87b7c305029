pub mod Leaves
pub mod Lanes
pub mod Heads
pub mod Walking
pub mod Rooted
