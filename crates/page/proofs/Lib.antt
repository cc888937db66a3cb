pub mod Marks
pub mod States
pub mod Rings
pub mod Reading
pub mod Tables
pub mod Searching
pub mod Repairs
