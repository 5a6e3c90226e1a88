pub mod Tokens
pub mod Syntax
pub mod Numbers
pub mod Shown
pub mod Machine
pub mod Looking
pub mod Steps
