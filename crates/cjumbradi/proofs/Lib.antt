pub mod Openings
pub mod Tellings
pub mod Moments
pub mod Settled
pub mod Demand
