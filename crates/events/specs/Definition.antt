-- Event records, as they stand in a log and as calls, and the kinds of events.
pub mod Kinds
pub mod Records
