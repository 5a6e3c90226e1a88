pub mod Formed
pub mod Ways
