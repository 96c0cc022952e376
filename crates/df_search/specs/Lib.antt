pub mod HeldPaths
pub mod Leaps
pub mod Searches
pub mod Resumptions
pub mod Reasons
