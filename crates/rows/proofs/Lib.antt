-- What the proofs of several functions use.
pub mod Counted
pub mod Numbers
pub mod Tests
