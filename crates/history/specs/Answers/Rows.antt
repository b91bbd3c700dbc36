-- Each test of a call says its row of the refusal table, and so the call is answered by the lowest row that holds.
pub mod Flags
pub mod Start
pub mod Channels
pub mod Room
pub mod Names
pub mod Segments
pub mod Bytes
pub mod Modules
