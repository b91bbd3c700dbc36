-- The tests and the facts agree, and what a changed row leaves.
pub mod Lists
pub mod Channels
pub mod Sizes
pub mod Says
pub mod Good
pub mod Counts
pub mod ChainRows
pub mod Exact
pub mod ClassRows
pub mod ChannelRows
pub mod DeviceRows
