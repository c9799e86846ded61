pub mod Store
pub mod Opened
pub mod Refusal
pub mod Unopened
pub mod ExamplesUnopened
