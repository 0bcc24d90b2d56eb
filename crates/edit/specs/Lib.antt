pub mod Calls
pub mod Runs
pub mod Adding
pub mod Taking
pub mod Counts
pub mod Given
pub mod Same
