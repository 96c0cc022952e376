pub mod Binomials
pub mod BlockBits
pub mod BlockLaws
pub mod BlockOrders
pub mod NextBlocks
pub mod Places
pub mod SizedLists
pub mod SubsetLists
