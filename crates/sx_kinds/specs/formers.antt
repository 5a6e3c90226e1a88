pub mod branches
