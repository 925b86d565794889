pub mod StepListed
pub mod Text
pub mod Lines
pub mod Step
