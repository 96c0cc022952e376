pub mod FullMaps
pub mod Laws
pub mod Products
