pub mod Bits
pub mod LeastMembers
pub mod Membership
pub mod NumberSets
pub mod Orders
pub mod Totals
