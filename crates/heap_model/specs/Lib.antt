pub mod Objects
pub mod Live
pub mod Packing
pub mod Moving
pub mod Steps
pub mod Making
