-- Words for functions within the reader: no sentences of the order.
pub mod Windows
pub mod Codes
pub mod Acts
pub mod Scan
