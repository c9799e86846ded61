use Rattle.std.proofs.Common.{◌≡◌, ◌≤◌, length}
use Rattle.std.specs.List.{filter, range_with_len}
use Rattle.scsi_inquiry.specs.Luns.{is_among}
use Rattle.scsi_inquiry.proofs.report_luns.rising.Given as goal

-- the numbers below this one have been looked for
abbrev pub invariant-loop-number : goal.invariant-loop-number
invariant-loop-number l = record {
  numbers : l.list.items ≡ filter (is_among l.numbers) (range_with_len 0 l.number);
  few : length l.list.items ≤ l.number;
}
