pub mod FrontCases
pub mod Said
pub mod TraceLaws
pub mod TraceWords
pub mod FoundLaws
