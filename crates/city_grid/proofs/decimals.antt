pub mod DigitValues
pub mod Equations
pub mod Places
pub mod Units
