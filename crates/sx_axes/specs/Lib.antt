pub mod Axes
pub mod Growth
pub mod Sought
pub mod Ways
pub mod Order
