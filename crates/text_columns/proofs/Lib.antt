pub mod CharsLoop
pub mod Widening
