pub mod OrbitSystems
pub mod Laws
pub mod WorkedSystem
