-- Laws that the proofs cite.
pub mod Hands
pub mod Branches
