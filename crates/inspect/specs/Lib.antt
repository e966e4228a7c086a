pub mod Printing
pub mod Reports
