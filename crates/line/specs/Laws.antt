-- The laws of walks and places, the line byte by byte, and its moves.
pub mod Points
pub mod Walks
pub mod Places
pub mod Held
pub mod Given
pub mod Makes
pub mod Moves
pub mod OneRam
pub mod PointsClosed
pub mod PointsOpened
pub mod PointsLinked
pub mod Lending
mod Examples
