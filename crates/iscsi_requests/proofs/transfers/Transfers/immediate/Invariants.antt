use Rattle.std.proofs.Common.{◌≡◌, ◌+◌, ◌≤◌, length, drop}
use Rattle.std.specs.Prelude.{filter}
use Rattle.iscsi_pdu.specs.Header.{is_immediate}
use Rattle.iscsi_requests.proofs.transfers.Transfers.immediate.Given as goal

-- those so far and those to come are all
abbrev pub invariant-loop-transfer : goal.invariant-loop-transfer
invariant-loop-transfer l = record {
  counted : l.immediate + length (filter (λ transfer. is_immediate transfer.header) (drop l.transfer-index l.self.list))
      ≡ length (filter (λ transfer. is_immediate transfer.header) l.self.list);
  few : l.immediate ≤ l.transfer-index;
}
