pub mod Escape
pub mod Answer
pub mod Examples
