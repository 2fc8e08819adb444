pub mod Cell
pub mod Column
pub mod Held
