pub mod Faults
pub mod Halves
pub mod Laws
pub mod Sizes
