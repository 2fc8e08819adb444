-- What exports are.
pub mod Cells
pub mod Exported
pub mod FileNames
