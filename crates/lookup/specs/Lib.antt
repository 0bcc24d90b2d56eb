pub mod Lives
pub mod Steps
pub mod Standing
pub mod Spans
pub mod Turns
pub mod Sizes
