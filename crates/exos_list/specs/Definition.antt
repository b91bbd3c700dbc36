-- What a turn of the listing program leaves.
pub mod Turns
