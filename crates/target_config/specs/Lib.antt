pub mod Configuration
pub mod Fault
pub mod Document
pub mod Limits
pub mod Distinct
pub mod Config
pub mod Loading
pub mod Examples
