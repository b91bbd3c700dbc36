-- The program's turns are a session.
pub mod Session
