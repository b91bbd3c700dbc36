-- What a read brings and a write takes, and laws about a buffer that is read into.
pub mod Definition
pub mod Laws
