pub mod Desk
pub mod Files
pub mod History
pub mod Mem
pub mod Opened
pub mod Pieces
pub mod Real
pub mod Steady
