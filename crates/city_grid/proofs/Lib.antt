pub mod VertexLaws
pub mod ShortIntegers
