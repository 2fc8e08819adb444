pub mod Saying
pub mod Agreeing
