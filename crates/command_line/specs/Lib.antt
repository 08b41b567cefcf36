pub mod Answered
pub mod Asked
pub mod Commands
pub mod Known
pub mod Matches
