pub mod Moments
pub mod Settled
