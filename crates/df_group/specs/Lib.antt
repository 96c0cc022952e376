pub mod ClosedSets
pub mod Elements
pub mod Multiples
pub mod Places
pub mod Refusals
pub mod Subgroups
