pub mod BeginningWords
