pub mod SetParts
pub mod Steps
pub mod SetsTold
