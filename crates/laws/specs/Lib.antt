pub mod Sized
pub mod Readable
