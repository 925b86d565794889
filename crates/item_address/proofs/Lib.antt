pub mod AddressLaws
pub mod Examples
pub mod LowBytesLaws
