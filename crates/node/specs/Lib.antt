pub mod Names
pub mod Nodes
pub mod Laws
