-- The image of the tables: the definition, and the laws about it.
pub mod Definition
pub mod Within
pub mod Laws
