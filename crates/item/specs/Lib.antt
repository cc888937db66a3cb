pub mod Places
pub mod Headers
pub mod Reading
pub mod Scanning
