-- The audit: the verdict is the first fault or that there is none, nothing after it matters, and a log in pieces is the same log.
pub mod Replies
pub mod Records
pub mod Turns
pub mod Verdicts
pub mod Starts
pub mod Reading
pub mod Example
