-- Open and close again leaves no mark (order 13): in the tables, in the RAM, and for what follows.
mod Tables
mod Spare
pub mod Again
mod Settled
mod Lines
pub mod Later
pub mod Next
