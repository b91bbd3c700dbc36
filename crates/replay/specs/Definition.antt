-- The run of the definition over a buffer of event records, and as a sequence of calls.
pub mod Replay
pub mod Runs
