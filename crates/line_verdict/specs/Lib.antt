pub mod Verdict
pub mod VerdictLaws
pub mod VerdictOnLaws
pub mod Said
