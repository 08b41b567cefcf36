pub mod Answered
pub mod HeldCity
