pub mod DecimalLaws
pub mod Examples
pub mod PackLaws
pub mod Said
