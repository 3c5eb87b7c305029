-- More laws of the module *Trace*.
pub mod Follows
pub mod Grow
pub mod Sums
