pub mod DigitLaws
pub mod Examples
pub mod LinesLaws
pub mod ListedBlocks
pub mod Said
pub mod StepLaws
pub mod TextLaws
