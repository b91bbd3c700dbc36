-- The strings of 01's section 'Names': the grammar, the reading that computes, and the words that are kept.
pub mod Grammar
pub mod Words
pub mod Tests
pub mod Read
pub mod Parts
