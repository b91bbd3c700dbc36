-- Words for functions within the writer and for its sheet: no sentences of the order.
pub mod Entries
pub mod Pages
pub mod Codes
pub mod Packing
