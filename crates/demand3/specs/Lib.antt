pub mod Premises
pub mod Claims
pub mod Addresses
pub mod Passing
