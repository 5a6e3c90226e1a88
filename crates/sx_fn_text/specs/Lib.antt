pub mod Calls
pub mod Characters
pub mod Laws
pub mod Pieces
pub mod Signatures
pub mod Tables
