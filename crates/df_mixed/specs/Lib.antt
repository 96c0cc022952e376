pub mod MixedLaws
pub mod MixedTables
pub mod MixedVerdicts
pub mod Origins
pub mod PairOrbits
