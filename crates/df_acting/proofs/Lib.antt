pub mod OrbitLaws
pub mod RepresentativeLaws
pub mod ImageLaws
pub mod OntoLists
pub mod StabilizerLaws
