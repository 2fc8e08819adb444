pub mod Counting
pub mod Defects
pub mod Faults
