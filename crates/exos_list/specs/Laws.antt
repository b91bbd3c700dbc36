-- The turns are those of a session.
pub mod Session
