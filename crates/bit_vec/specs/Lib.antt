-- What the contracts of `bit_vec` cite.
pub mod Moves
