pub mod Nodes
pub mod Laws
pub mod Units
pub mod Filling
