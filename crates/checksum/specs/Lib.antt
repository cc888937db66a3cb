pub mod Register
pub mod Table
pub mod Claims
