pub mod Sizes
pub mod Spots
