pub mod Branches
pub mod EntryFaults
pub mod ColumnTests
pub mod LeafLists
pub mod LeafFaults
pub mod CutSums
pub mod RowFaults
pub mod LogMoves
pub mod DesignMoves
pub mod DesignLeaves
pub mod SignedSums
pub mod BoundedSystems
pub mod DossierParts
pub mod Heard
pub mod VerdictLines
pub mod VerdictParts
pub mod VerdictDossiers
pub mod GivenItems
pub mod ChainVerdicts
pub mod LimitsTold
mod OpeningSteps
mod InputSteps
mod CopiedFront
pub mod JudgedMoves
