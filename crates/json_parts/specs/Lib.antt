pub mod Values
pub mod Reads
