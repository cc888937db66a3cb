pub mod Table
pub mod Searches
