pub mod Range
pub mod Shapes
pub mod Rows
pub mod Buffers
pub mod Demand1
