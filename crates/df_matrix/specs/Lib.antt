pub mod Limits
pub mod MatrixParts
