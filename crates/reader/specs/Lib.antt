pub mod Allowed
pub mod Building
pub mod Judging
