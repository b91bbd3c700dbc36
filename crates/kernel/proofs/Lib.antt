-- What the proofs of several functions use.
pub mod Known
pub mod Calls
pub mod Refusing
pub mod Starting
pub mod Defaulting
pub mod Allocating
pub mod Growing
pub mod Opening
pub mod Linking
pub mod NoChange
pub mod Shrinking
pub mod Closing
pub mod Resetting
pub mod Spans
pub mod Accessing
pub mod Loading
pub mod Values
