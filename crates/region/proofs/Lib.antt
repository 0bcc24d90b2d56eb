pub mod Sizes
pub mod Decoded
pub mod Instances
pub mod Stores
pub mod CountLaws
pub mod ShapeLaws
pub mod Fitted
