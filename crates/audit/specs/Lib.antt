-- The audit: the definition, and the laws about it.
pub mod Definition
pub mod Laws
