pub mod Within
pub mod Run
