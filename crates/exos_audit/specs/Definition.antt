-- What a turn and a run of the auditing program leave.
pub mod Turns
pub mod Ends
