pub mod Ways
pub mod Reach
pub mod View
pub mod Holds
pub mod Cut
