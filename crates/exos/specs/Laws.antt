-- Laws of the library's promises.
pub mod One
