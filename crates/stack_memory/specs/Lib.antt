pub mod Promises
pub mod Limits
pub mod Snapshots
pub mod Meaning
pub mod Parts
pub mod Making
pub mod SnapshotSizes
