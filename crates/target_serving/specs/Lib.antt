pub mod Fault
pub mod Serve
pub mod Logging
pub mod ExamplesLogging
