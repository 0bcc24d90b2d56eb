pub mod Height
pub mod Nodes
pub mod Steps
pub mod Starts
pub mod Hits
pub mod Sizes
pub mod Bounds
