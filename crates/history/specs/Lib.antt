-- Condition 3 over any sequence of calls, that each input has exactly one result, that an open and its close leave no mark, and how much a call moves.
pub mod Definition
pub mod Bytes
pub mod Room
pub mod Answers
pub mod NoMark
pub mod Moved
pub mod Reachable
mod Example
