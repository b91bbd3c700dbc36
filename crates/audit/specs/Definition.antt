-- The audit: a maker's log by order 11, what is right and what is at fault in it, the verdict, and the line that tells it.
pub mod Replies
pub mod Records
pub mod Log
pub mod Verdict
pub mod Words
pub mod Pieces
