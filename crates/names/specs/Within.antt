-- What the functions within `parse` promise: words of their contracts, no sentences of 01.
pub mod Steps
