pub mod Rows
pub mod Readings
pub mod CommandLines
pub mod Faults
pub mod Workloads
