pub mod Buckets
pub mod Images
