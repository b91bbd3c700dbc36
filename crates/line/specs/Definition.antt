-- The line of channel RAM, what an open, a close and a link make of it, the moves step by step, and what a read gives of a buffer.
pub mod Ram
pub mod Line
pub mod Moves
pub mod Given
pub mod Lent
pub mod Guard
