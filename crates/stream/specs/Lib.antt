-- The stream that is compared: the definition, and the laws about it.
pub mod Definition
pub mod Laws
