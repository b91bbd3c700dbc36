-- Bytes put and read, and the image read back.
pub mod Bytes
pub mod At
pub mod Rows
pub mod Round
