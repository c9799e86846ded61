use Rattle.std.proofs.Common.{◌≡◌, ◌+◌, ◌-◌, ◌≤◌, length}
use Rattle.std.specs.List.{filter, range_with_len}
use Rattle.iscsi_ports.specs.Turns.{is_due, due_count}
use Rattle.iscsi_ports.proofs.TakingTurns.{ArePassed}
use Rattle.iscsi_ports.proofs.turns.Turns.pass_over.Given as goal

abbrev pub invariant-loop-c : goal.invariant-loop-c
invariant-loop-c l = record {
  count : l.count + length (filter (is_due l.fn.named l.self) (range_with_len l.c (64 - l.c))) ≡ due_count l.fn.named l.self;
  few : l.count ≤ l.c;
  passed : ArePassed l.fn.named l.self.long l.named l.c;
}
