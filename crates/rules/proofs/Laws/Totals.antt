-- More laws of the module *Totals*.
pub mod Bound
