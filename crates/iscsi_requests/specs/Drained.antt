-- The data of a SCSI Command that was removed, for which a function waits.
use Rattle.std.specs.Prelude.{ℕ, List}
use Rattle.iscsi_transfer.specs.WriteData.{blank}
use Rattle.iscsi_requests.specs.declared.transfers.Transfer.{Transfer}

-- the same without the data: zeros in its place
abbrev pub blanked : Transfer → Transfer
blanked transfer = record transfer { task = blank transfer.task }

pub record Drained : Type 0 where
  -- the header of the function
  pub function : List ℕ
  pub transfer : Transfer
