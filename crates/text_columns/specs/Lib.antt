-- What a table's lines are.
pub mod Columns
pub mod Escapes
pub mod Raised
