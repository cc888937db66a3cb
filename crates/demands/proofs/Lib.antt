pub mod Contracts
pub mod Demand1
pub mod Demand3
pub mod Room
