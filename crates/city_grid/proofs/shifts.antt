pub mod OneShift
pub mod Quotients
