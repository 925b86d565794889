pub mod Answer
pub mod Step
pub mod Chain
