pub mod Padded
pub mod Laws
