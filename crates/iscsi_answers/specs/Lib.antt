pub mod Answers
pub mod Room
pub mod ExamplesRoom
