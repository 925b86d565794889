pub mod ContentLaws
pub mod Examples
pub mod TableLaws
pub mod TableWords
