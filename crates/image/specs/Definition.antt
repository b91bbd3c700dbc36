-- The image of the tables.
pub mod Offsets
pub mod Image
