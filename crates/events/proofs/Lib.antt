-- What the proofs of several functions use.
pub mod Laws
pub mod Taken
pub mod ByKind
pub mod Walks
