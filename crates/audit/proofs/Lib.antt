-- Laws that the proofs cite.
pub mod Walked
pub mod Wholes
