-- Order 3's stream: bits, items, the reading, the location counter, and what is at fault.
pub mod Bits
pub mod Items
pub mod Reading
pub mod Counter
pub mod Judging
pub mod Faults
