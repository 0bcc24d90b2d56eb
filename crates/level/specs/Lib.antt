pub mod Levels
pub mod Kinds
pub mod Places
