pub mod RemainingDesigns
pub mod LeftBlocks
pub mod HeldDesigns
