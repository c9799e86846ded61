-- The data of a Data-Out that is staged until its PDU is whole (RFC 7143 §11.7).
use Rattle.std.specs.Prelude.{ℕ, List}
use Rattle.iscsi_pdu.specs.Frames.{Frame}
use Rattle.iscsi_transfer.specs.WriteData.{WriteDataState}

-- the data of a command, and what has come of a Data-Out that is not accepted yet
pub record StagedState : Type 0 where
  pub task : WriteDataState
  pub staged : List ℕ

-- the Data-Out with this header whose data is staged
abbrev pub staged_frame : List ℕ → StagedState → Frame
staged_frame header state = record { header = header; body = state.staged }
