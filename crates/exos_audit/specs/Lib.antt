-- The auditing program: what a turn and a run leave, and that its turns are a session.
pub mod Definition
pub mod Laws
