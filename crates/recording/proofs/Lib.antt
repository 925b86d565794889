pub mod Blocks
pub mod ChainLaws
pub mod MoveLaws
pub mod Said
pub mod StepLaws
