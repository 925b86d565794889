pub mod Writing
pub mod WritingLaws
pub mod Parts
pub mod PartsLaws
pub mod Said
