pub mod Applied
pub mod Changes
pub mod Keys
pub mod Laws
pub mod Printed
pub mod Said
pub mod Prepared
pub mod Stored
