pub mod AllowedWords
pub mod BuildWords
pub mod BuildingLaws
pub mod JudgeWords
pub mod JudgeWordsLaws
pub mod JudgingLaws
pub mod Said
pub mod SaidLaws
