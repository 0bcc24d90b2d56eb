pub mod Tests
pub mod Tally
pub mod Fine
pub mod Decides
pub mod Whole
pub mod Heads
