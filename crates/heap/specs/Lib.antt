pub mod Buffers
pub mod Content
pub mod Calls
