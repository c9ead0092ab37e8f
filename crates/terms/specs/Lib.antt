pub mod Hash
pub mod Memory
pub mod Means
pub mod Survey
pub mod Reads
pub mod Stored
pub mod Interning
pub mod Whole
