-- Laws of the stream's promises.
pub mod One
