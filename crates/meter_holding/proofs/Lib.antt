pub mod EnergiesWords
pub mod FreshWords
pub mod RangesWords
pub mod Said
pub mod HoldingLaws
