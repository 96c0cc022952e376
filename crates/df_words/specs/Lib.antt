pub mod Table
pub mod CommandLines
pub mod Reading
