pub mod AllowedLaws
pub mod AllowedWords
