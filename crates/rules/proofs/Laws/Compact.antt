-- More laws of the module *Compact*.
pub mod Answers
pub mod Bound
pub mod Encoding
pub mod Grow
pub mod Law
pub mod Sizes
