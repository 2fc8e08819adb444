-- The rules on products.
pub mod Actions
pub mod Components
pub mod Media
pub mod Products
pub mod Texts
pub mod Trees
pub mod Unused
