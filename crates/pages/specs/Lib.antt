pub mod Paths
pub mod Written
