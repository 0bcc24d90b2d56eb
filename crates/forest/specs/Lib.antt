pub mod Places
pub mod Compare
pub mod Stands
pub mod Paths
