pub mod Faults
pub mod Leaving
pub mod Meaning
pub mod Starting
