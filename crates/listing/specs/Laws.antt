-- The listing record by record and in pieces, and 01's example.
pub mod Log
pub mod Starts
pub mod Example
pub mod NoneOrGood
pub mod Pieces
pub mod One
pub mod Reading
