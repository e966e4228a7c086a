pub mod BucketLaws
pub mod FindLaws
pub mod MapLaws
pub mod StartLaws
