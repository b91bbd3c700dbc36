-- The listing program: a log's text, and what its parts promise of it.
pub mod Log
pub mod NoneOrGood
pub mod Pieces
pub mod Ends
