pub mod Allowed
pub mod Asked
pub mod Edited
pub mod Valued
