-- What a read brings and a write takes.
pub mod Outcomes
