pub mod Held
pub mod Judged
pub mod Parts
pub mod Whole
