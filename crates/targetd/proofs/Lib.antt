pub mod Made
pub mod Ending
