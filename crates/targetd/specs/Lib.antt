pub mod Unopened
pub mod Help
pub mod Run
pub mod Left
