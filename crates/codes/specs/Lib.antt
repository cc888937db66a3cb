pub mod Codes
pub mod Distinct
