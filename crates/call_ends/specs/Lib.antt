pub mod Numbers
pub mod NumbersWords
