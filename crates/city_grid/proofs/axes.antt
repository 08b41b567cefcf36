pub mod ThreeNumbers
pub mod Triples
