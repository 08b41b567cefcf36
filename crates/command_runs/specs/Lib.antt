pub mod Answer
pub mod FaultLine
pub mod Merging
pub mod Opening
pub mod Passing
pub mod Words
