pub mod BitComparisons
pub mod MemberBits
