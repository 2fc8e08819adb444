pub mod Expressions
pub mod Request
pub mod Commands
pub mod Built
pub mod Nested
pub mod RequestsOf
pub mod Guards
