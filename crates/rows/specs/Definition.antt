-- The parts of the definition that speak of one array of the tables.
pub mod Lists
pub mod Classes
pub mod Channels
pub mod Devices
pub mod Sizes
pub mod Good
pub mod Tests
