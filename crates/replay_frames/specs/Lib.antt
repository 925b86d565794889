pub mod PutAnswer
pub mod Putting
