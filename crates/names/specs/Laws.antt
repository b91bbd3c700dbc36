-- The computed reading is the one reading of the grammar.
pub mod Runs
pub mod Numbers
pub mod Laid
pub mod Right
pub mod Places
pub mod Examples
