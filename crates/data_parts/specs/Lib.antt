pub mod Joined
pub mod Spares
