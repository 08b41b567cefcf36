pub mod OneTransform
