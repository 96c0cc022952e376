pub mod Blocks
pub mod SetLaws
pub mod SubsetLaws
pub mod Subsets
