pub mod Lines
pub mod Normal
pub mod Print
pub mod Reader
