pub mod Document
pub mod Copies
