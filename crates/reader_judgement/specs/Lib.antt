pub mod Judging
pub mod JudgingWords
pub mod Said
