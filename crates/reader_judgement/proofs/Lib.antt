pub mod JudgingWordsLaws
