pub mod ChosenColumns
pub mod FirstBlocks
pub mod ReadyBlocks
pub mod BlockPlaces
pub mod DesignBlocks
pub mod MetImages
pub mod RemainingLaws
