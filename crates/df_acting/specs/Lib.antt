pub mod Orbits
pub mod Representatives
pub mod Images
pub mod Laws
