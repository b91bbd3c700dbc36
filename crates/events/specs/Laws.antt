-- What stands at the front of a log, and what a call can hold that a record brings.
pub mod Front
pub mod Bodies
