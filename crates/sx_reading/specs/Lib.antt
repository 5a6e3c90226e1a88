pub mod Answers
pub mod Frame
pub mod Headline
pub mod Program
pub mod Transforming
pub mod Turn
