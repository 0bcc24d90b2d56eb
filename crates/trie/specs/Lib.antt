pub mod Values
pub mod Slots
pub mod Calls
pub mod Listings
pub mod Sizes
