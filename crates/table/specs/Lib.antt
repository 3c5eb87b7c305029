pub mod Nodes
pub mod Laws
pub mod Filling
