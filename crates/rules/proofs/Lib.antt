-- The laws of the theory. The definitions that they are about stand in specs/.
pub mod Laws
