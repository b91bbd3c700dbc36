-- Relocatable modules: the definition, words for the reader, and laws.
pub mod Definition
pub mod Within
pub mod Laws
