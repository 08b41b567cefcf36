pub mod Axes
pub mod Decimal
pub mod NumberEnds
pub mod Shift
pub mod Transform
pub mod Vertex
