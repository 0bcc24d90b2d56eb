pub mod Turns
pub mod RuleLaws
pub mod LevelLaws
pub mod ThirteenPairs
pub mod Texts
pub mod Settled
pub mod FaultLaws
