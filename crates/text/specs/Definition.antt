-- Numbers and bytes as text.
pub mod Put
pub mod Text
