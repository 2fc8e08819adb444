-- What is read of files of exported tables.
pub mod Columns
pub mod Reading
