pub mod Exchange
pub mod ExchangeTerms
