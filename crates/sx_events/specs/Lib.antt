pub mod Place
pub mod Course
pub mod Pending
pub mod Standing
pub mod Starting
pub mod Reader
pub mod Laws
