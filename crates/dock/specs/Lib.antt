pub mod Promises
pub mod Sights
