pub mod FilledUp
pub mod Knowing
pub mod Names
pub mod RowTests
pub mod WorkedExpressions
