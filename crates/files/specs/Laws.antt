-- The part of a buffer that is in hand, and what is moved to its front.
pub mod Windows
