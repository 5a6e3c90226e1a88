pub mod Places
pub mod Ascii
