pub mod Answers
pub mod Example
pub mod Writing
pub mod Reading
