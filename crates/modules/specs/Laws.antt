-- What the definition says of a stream, what a module without fault stores, and that the reader reads as it says.
pub mod Numbers
pub mod Items
pub mod Tests
pub mod Faults
pub mod Stored
pub mod Clear
pub mod Unique
pub mod Moves
pub mod Examples
pub mod Positions
pub mod Padding
pub mod Codes
pub mod Scan
pub mod Taken
pub mod Puts
pub mod Acts
pub mod Turns
