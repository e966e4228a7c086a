pub mod Frames
pub mod Laws
pub mod Masks
pub mod Roots
pub mod Writing
