-- The answer is the lowest row of the refusal table that holds; each input has one result.
pub mod Lowest
pub mod Tests
pub mod Numbers
pub mod Found
pub mod Rows
pub mod Decided
pub mod Proved
pub mod Refused
pub mod Loaded
pub mod Written
