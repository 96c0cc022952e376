pub mod Covers
pub mod Developments
pub mod FamilyLaws
pub mod Remainders
pub mod Tables
pub mod Tallies
pub mod Translates
pub mod Verdicts
