-- Laws that the proofs cite.
pub mod LineLaws
pub mod Calls
pub mod Carries
pub mod Wholes
