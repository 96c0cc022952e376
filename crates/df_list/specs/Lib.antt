pub mod FaultTexts
pub mod Listings
pub mod LogFaultTexts
pub mod PairTexts
pub mod TableTexts
