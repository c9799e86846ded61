pub mod Left
pub mod Places
pub mod Heads
pub mod Sent
pub mod Unread
mod Lines
mod Voiding
mod Sending
mod Empty
