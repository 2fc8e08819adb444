pub mod Named
pub mod Nested
pub mod Hex
pub mod BuiltColumns
