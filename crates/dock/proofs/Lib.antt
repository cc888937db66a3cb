pub mod Calls
pub mod Sights
