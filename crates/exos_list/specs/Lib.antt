-- The listing program's turns: what they promise, and that they are those of a session.
pub mod Definition
pub mod Laws
