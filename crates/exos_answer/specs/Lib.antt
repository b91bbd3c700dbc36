-- The program's state.
pub mod Within
