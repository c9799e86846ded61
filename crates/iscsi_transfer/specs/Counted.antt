-- How far the data of a command comes.
use Rattle.std.specs.Prelude.{ℕ, ◌+◌, ◌≤◌, List, length, replicate}
use Rattle.iscsi_pdu.specs.Frames.{Frame}
use Rattle.iscsi_transfer.specs.WriteData.{WriteDataState, filled, grown}
use Rattle.iscsi_transfer.specs.declared.progress.Progress.TheInside.{Inside}

-- a Data-Out with this header and this many bytes of data, all of them zeros
abbrev pub brought : List ℕ → ℕ → Frame
brought header size = record { header = header; body = replicate size 0 }

-- what holds of all progress: its numbers have four bytes
pub record IsCounted (progress : Inside) : Type 0 where
  pub some_burst : 1 ≤ progress.burst
  pub behind : progress.unsolicited ≤ progress.length
  pub counted : progress.sequence_length ≤ 4294967296
  pub expects : progress.expected ≤ 4294967295
  pub short : progress.length ≤ 4294967295
  pub few : progress.outstanding ≤ 4

-- a Data-Out completes one R2T at most, and none if no R2T is open
pub record Takes (task : WriteDataState) (out : Frame) : Type 0 where
  pub step : filled (grown task out) ≤ filled task + 1
  pub opened : filled (grown task out) ≤ filled task + length task.open_tags
