-- A byte read or lent on is the one last written through that channel, and a user's byte changes only by the user's store.
pub mod Places
pub mod Patched
pub mod Each
pub mod Words
pub mod Buffers
pub mod Sized
pub mod Steps
pub mod BytesRead
pub mod LentOn
pub mod Stores
pub mod UserBytes
pub mod Loads
