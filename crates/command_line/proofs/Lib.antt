pub mod Decimals
pub mod Parses
