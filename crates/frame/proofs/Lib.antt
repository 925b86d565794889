pub mod ChecksumLaws
pub mod EndToEndLaws
pub mod Examples
pub mod FrameLaws
pub mod RecognitionLaws
pub mod RefusalNumbers
pub mod StageLaws
pub mod TakenApartLaws
