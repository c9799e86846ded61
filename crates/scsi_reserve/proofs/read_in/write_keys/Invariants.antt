use Rattle.std.proofs.Common.{◌≡◌, ◌++◌, take}
use Rattle.std.specs.List.{flat_map}
use Rattle.scsi_reserve.specs.ReadIn.{key_bytes}
use Rattle.scsi_reserve.proofs.read_in.write_keys.Given as goal

-- the keys so far are written
abbrev pub invariant-loop-row : goal.invariant-loop-row
invariant-loop-row l = l.list.items ≡ l.fn.list.items ++ flat_map key_bytes (take l.row-index l.rows)
