pub mod EndWords
