pub mod Contents
pub mod Texts
