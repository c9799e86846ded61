pub mod Numbers
pub mod Lists
pub mod KeyTree
pub mod After
pub mod Ranges
pub mod Replying
mod Dialogue
pub mod FirstText
pub mod Texts
pub mod Declared
pub mod Answered
mod Cutting
