pub mod Touched
pub mod Moved
pub mod Swept
pub mod Removed
