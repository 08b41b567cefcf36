pub mod Ending
pub mod Histories
pub mod Queueing
pub mod Reflecting
pub mod Seeing
pub mod Taking
