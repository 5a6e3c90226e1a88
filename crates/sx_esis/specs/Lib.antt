pub mod Escapes
pub mod Replacing
pub mod Lines
pub mod Forms
pub mod Inside
pub mod Buffered
pub mod LineReader
pub mod Gives
