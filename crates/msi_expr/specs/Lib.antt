pub mod Conditions
pub mod Formula
pub mod Printed
pub mod RowTests
pub mod Worths
