pub mod Spaces
pub mod Retries
pub mod Erases
