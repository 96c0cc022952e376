pub mod Orbits
pub mod Laws
pub mod MarkedPlaces
pub mod LookupTables
