pub mod Chains
pub mod Making
pub mod Copied
pub mod Steps
