pub mod Joins
pub mod Accepted
pub mod PartLaws
pub mod Holdings
pub mod UnitLaws
pub mod LevelLaws
