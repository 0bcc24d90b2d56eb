pub mod PathLaws
pub mod TextLaws
pub mod RecordLaws
pub mod NodeLaws
pub mod RowLaws
pub mod Answers
