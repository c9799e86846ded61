pub mod Asking
pub mod GoingOn
pub mod Short
mod Cutting
