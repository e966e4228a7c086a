pub mod Bytes
pub mod Codes
pub mod Fields
pub mod Parsing
