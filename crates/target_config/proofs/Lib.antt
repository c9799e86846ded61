pub mod Texts
pub mod Lists
pub mod Files
pub mod Entries
pub mod Faults
mod Contents
