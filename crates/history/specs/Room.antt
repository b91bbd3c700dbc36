-- The system holds the fewest segments, and an open is refused for room exactly when no layout fits.
pub mod Sums
pub mod Layout
pub mod Counts
pub mod Bounds
pub mod Fewest
pub mod RoomRule
pub mod Earlier
pub mod Checks
pub mod RoomExactly
pub mod LinkAlone
