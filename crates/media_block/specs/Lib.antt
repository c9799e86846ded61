pub use Rattle.media_store.specs.Failures
pub mod Blocks
pub mod Fault
pub mod Laws
pub mod Examples
