pub mod Request
pub mod Decision
pub mod Checks
pub mod DecisionWords
pub mod Said
