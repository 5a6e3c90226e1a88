pub mod Bindings
pub mod Inside
pub mod Numbering
pub mod Scope
