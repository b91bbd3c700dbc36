-- The records of a buffer, and that their run is a run of history.
pub mod Records
pub mod Runs
mod Example
