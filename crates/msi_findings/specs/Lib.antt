pub mod Findings
pub mod Misplaced
pub mod Misshapen
pub mod Placing
pub mod Unkept
