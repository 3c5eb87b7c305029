pub mod Putting
pub mod Placing
pub mod Walking
pub mod Parts
