pub use Rattle.iscsi_world.proofs.Choices
pub use Rattle.iscsi_world.proofs.Lives
pub use Rattle.iscsi_world.proofs.Linked
pub use Rattle.iscsi_world.proofs.Keeping
pub use Rattle.iscsi_world.proofs.Reflected
pub use Rattle.iscsi_world.proofs.Standing
mod Rooms
mod Pieces
mod Rows
mod Bytes
