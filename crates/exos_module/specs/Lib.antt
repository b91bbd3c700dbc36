-- The writing program: how a run ends, what it hands to the write and what it tells; and laws.
pub mod Definition
pub mod Laws
