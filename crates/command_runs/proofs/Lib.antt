pub mod Asking
pub mod Opened
pub mod Shown
