pub mod Rules
pub mod Turns
pub mod Grammar
pub mod Joined
