-- Names: the definition, words for functions within the parse, and laws.
pub mod Definition
pub mod Within
pub mod Laws
