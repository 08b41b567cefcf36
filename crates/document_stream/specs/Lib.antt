pub mod CutStream
pub mod Input
pub mod Taking
