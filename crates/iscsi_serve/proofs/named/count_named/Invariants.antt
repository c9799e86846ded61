use Rattle.std.proofs.Common.{◌≡◌, ◌+◌, ◌≤◌}
use Rattle.iscsi_serve.specs.Named.{named_from}
use Rattle.iscsi_serve.proofs.named.count_named.Given as goal

abbrev pub invariant-loop-c : goal.invariant-loop-c
invariant-loop-c l = record {
  count : l.count + named_from l.named l.c ≡ named_from l.named 0;
  few : l.count ≤ l.c;
}
