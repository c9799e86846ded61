use Rattle.std.proofs.Common.{◌≡◌, ◌+◌, ◌≤◌}
use Rattle.iscsi_ports.specs.Turns.{short_from}
use Rattle.iscsi_ports.proofs.turns.Turns.count_short.Given as goal

abbrev pub invariant-loop-c : goal.invariant-loop-c
invariant-loop-c l = record {
  count : l.count + short_from l.ready l.self l.c ≡ short_from l.ready l.self 0;
  few : l.count ≤ l.c;
}
