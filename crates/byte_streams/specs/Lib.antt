pub mod Bin
pub mod Device
pub mod Failures
pub mod Faults
pub mod Intake
pub mod Limits
pub mod Source
pub mod Tape
