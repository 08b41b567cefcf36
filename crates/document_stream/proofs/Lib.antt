pub mod AllWritten
pub mod InputTaken
pub mod StreamWritten
