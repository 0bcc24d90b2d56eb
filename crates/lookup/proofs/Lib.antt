pub mod LifeLaws
pub mod StepLaws
pub mod RowLaws
pub mod SpanLaws
pub mod TurnLaws
pub mod OwnLaws
pub mod SizeLaws
pub mod Answers
