-- What the definition of the writer says: entries, bits and bytes, what is refused, and that writer and reader give each other back.
pub mod Entries
pub mod Numbers
pub mod Sizes
pub mod Bytes
pub mod Pages
pub mod Packing
pub mod Writing
pub mod Refusals
pub mod Fits
pub mod ReadBack
pub mod Examples
pub mod One
