pub mod Trails
pub mod TextLaws
pub mod ValueLaws
pub mod RecordLaws
pub mod ListingLaws
