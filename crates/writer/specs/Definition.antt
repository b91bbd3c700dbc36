-- Order 9's writer: items as bytes, a module's bytes, and what is written or refused.
pub mod Entries
pub mod Bytes
pub mod Writing
pub mod Refusals
pub mod ReadBack
