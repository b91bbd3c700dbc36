-- The words of condition 3 and of orders 8 and 13, and what is said of the definition.
pub mod Runs
pub mod NoMark
pub mod Moved
pub mod Loads
pub mod Writes
pub mod Users
pub mod Lent
pub mod Reachable
pub mod Layout
pub mod Places
pub mod Room
pub mod Checks
pub mod Refused
pub mod ExactlyOne
