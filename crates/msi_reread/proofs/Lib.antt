pub mod OpenedTrees
pub mod PartsReread
pub mod Puts
pub mod TreesReread
