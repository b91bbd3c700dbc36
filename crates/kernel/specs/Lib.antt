-- The definition, words for functions within the calls, the ten cases, and laws.
pub mod Definition
pub mod Within
pub mod Cases
pub mod Laws
