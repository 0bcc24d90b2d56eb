pub mod Trails
pub mod Written
