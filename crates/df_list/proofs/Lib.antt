pub mod FaultLengths
pub mod Lengths
pub mod ListingEvents
