pub mod BorrowedOrder
pub mod DataOrder
pub mod Commas
pub mod QuotedText
