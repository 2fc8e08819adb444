pub mod Counts
pub mod Recounted
