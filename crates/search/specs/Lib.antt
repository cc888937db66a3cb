pub mod Turns
pub mod Meanings
pub mod Searching
