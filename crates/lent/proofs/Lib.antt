pub mod Parts
pub mod Digits
pub mod Turns
pub mod Anywhere
