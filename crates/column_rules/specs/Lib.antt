-- What `_Validation` says of columns.
pub mod Constraints
pub mod Described
pub mod Stated
pub mod Values
