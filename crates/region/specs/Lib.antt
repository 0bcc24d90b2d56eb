pub mod Layout
pub mod Units
pub mod Forms
pub mod Opening
pub mod Decode
pub mod Store
pub mod Shapes
