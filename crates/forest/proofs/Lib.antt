pub mod FirstRow
pub mod OrderLaws
pub mod RowLaws
pub mod StandsLaws
