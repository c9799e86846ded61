pub mod Names
pub mod Once
pub mod Stays
pub mod Fenced
