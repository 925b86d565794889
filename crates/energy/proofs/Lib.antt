pub mod ColumnsLaws
pub mod Decoded
pub mod RangeLaws
pub mod ReadingLaws
