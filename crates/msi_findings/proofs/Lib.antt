pub mod Found
pub mod Kept
pub mod Placed
pub mod ReadParts
pub mod SetParts
pub mod Shapes
pub mod Unread
