pub mod Said
pub mod WholeLineWords
pub mod WholeLineLaws
