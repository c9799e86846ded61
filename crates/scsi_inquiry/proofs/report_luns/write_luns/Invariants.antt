use Rattle.std.proofs.Common.{◌≡◌, ◌+◌, ◌*◌, ◌++◌, length, take}
use Rattle.std.specs.List.{flat_map}
use Rattle.scsi_inquiry.specs.Luns.{lun_field}
use Rattle.scsi_inquiry.proofs.report_luns.write_luns.Given as goal

-- the LUNs so far have been written
abbrev pub invariant-loop-number : goal.invariant-loop-number
invariant-loop-number l = record {
  luns : l.list.items ≡ l.fn.list.items ++ flat_map lun_field (take l.number-index l.numbers);
  length : length l.list.items ≡ length l.fn.list.items + 8 * l.number-index;
}
