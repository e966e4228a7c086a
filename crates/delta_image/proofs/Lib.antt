pub mod Chains
pub mod Exact
pub mod Fronts
pub mod Layouts
pub mod Merging
pub mod Stretches
pub mod Unique
