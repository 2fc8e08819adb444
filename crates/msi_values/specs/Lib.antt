pub mod Borrowed
pub mod Datum
pub mod Layout
