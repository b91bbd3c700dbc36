-- Document 01, in its own order, with the orders of document 02; answers come before the calls that give them, and a buffer lent on comes last, since it asks for tables that are ready.
-- Its layouts stand with the theorems about them in the crate history, its event records in the crate events.
pub mod Tables
pub mod Good
pub mod Line
pub mod Segments
pub mod Devices
pub mod Reset
pub mod Start
pub mod Names
pub mod Bytes
pub mod Answers
pub mod Calls
pub mod Refusals
pub mod Step
pub mod Lend
