pub mod ChecksLaws
pub mod DecisionLaws
pub mod DecisionWordsLaws
pub mod RequestWords
pub mod SaidLaws
