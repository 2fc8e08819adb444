-- What a package holds, as plain values.
pub mod Alike
pub mod Content
pub mod HeldCell
pub mod HeldColumn
pub mod HeldListing
pub mod HeldProperty
pub mod HeldTable
