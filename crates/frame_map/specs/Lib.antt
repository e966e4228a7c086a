pub mod Maps
pub mod Rows
pub mod Tables
pub mod Taking
pub mod Texts
