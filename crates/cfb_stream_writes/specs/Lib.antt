pub mod Sizes
pub mod Streams
pub mod Moving
