pub mod Calls
pub mod Erasing
pub mod Slots
pub mod Units
pub mod Counted
pub mod Lookups
