-- How a run of the writing program ends, what it hands to the write, and what it tells.
pub mod Ends
pub mod Handed
pub mod Told
