pub mod Child
pub mod Probe
pub mod PathFound
