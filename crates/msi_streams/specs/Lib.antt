pub mod Parts
pub mod Writing
pub mod Pieces
