-- What the library's functions leave in the bytes they are given.
pub mod Call
pub mod Replays
pub mod Modules
