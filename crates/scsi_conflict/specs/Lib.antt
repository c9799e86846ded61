pub use Rattle.scsi_sense.specs.Nexus
pub mod ReservationType
pub mod Conflict
pub mod Registration
pub mod Allowed
