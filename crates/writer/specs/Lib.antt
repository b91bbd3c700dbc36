-- Writing modules: the definition, words for functions within the writer and for its sheet, and laws.
pub mod Definition
pub mod Within
pub mod Laws
