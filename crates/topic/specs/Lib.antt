pub mod Match
pub mod Rules
pub mod Answers
pub mod Pairs
pub mod Settled
