pub mod CutLaws
pub mod OnePutLaws
pub mod PutLent
pub mod PuttingLaws
pub mod PuttingWords
pub mod Said
pub mod TurnLaws
