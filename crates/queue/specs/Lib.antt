pub mod Promises
pub mod Distinct
pub mod Unique
