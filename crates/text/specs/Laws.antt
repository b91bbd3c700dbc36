-- Laws of text.
pub mod Text
pub mod One
