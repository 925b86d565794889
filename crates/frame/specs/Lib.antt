pub mod Refusals
pub mod Frame
pub mod Recognition
pub mod EndToEnd
pub mod CaseFrames
