pub mod Checking
pub mod Decoding
pub mod File
pub mod Layout
pub mod Meaning
pub mod MapTable
