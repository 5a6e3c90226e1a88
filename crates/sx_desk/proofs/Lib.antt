pub mod Fields
pub mod Places
pub mod Reading
pub mod Recorded
pub mod Rows
