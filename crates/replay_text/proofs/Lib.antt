pub mod DecimalLaws
pub mod Said
pub mod TextLaws
pub mod TextWords
pub mod WrittenLaws
