pub mod CountingLaws
pub mod CountingWords
pub mod CountingWordsLaws
pub mod RowsLaws
pub mod Said
