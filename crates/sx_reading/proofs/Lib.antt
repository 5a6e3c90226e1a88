pub mod Diagnostics
pub mod Frames
pub mod Headlines
pub mod Marks
pub mod Meanings
pub mod Turns
