pub mod Blocks
pub mod Writes
pub mod Same
pub mod Differences
pub mod Results
