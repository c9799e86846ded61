pub mod LogOpened
pub mod Failing
