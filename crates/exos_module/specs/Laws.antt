-- What is handed to the write stands in the buffer, and an input of too many items has no module to hand.
pub mod Handed
pub mod TooMany
