pub mod Split
pub mod Join
pub mod KindLaws
pub mod ByteLaws
