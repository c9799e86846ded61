use Rattle.std.proofs.Common.{◌≡◌, ◌+◌, ◌≤◌, length, drop}
use Rattle.std.specs.Prelude.{filter}
use Rattle.iscsi_pdu.specs.Header.{is_immediate}
use Rattle.iscsi_session.proofs.task_management.Functions.immediate.Given as goal

-- those so far and those to come are all
abbrev pub invariant-loop-header : goal.invariant-loop-header
invariant-loop-header l = record {
  counted : l.immediate + length (filter is_immediate (drop l.header-index l.self)) ≡ length (filter is_immediate l.self);
  few : l.immediate ≤ l.header-index;
}
