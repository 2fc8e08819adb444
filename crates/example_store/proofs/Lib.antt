pub mod Front
pub mod Left
