use Rattle.iscsi_ports.proofs.NamingShort.{AreChosen}
use Rattle.iscsi_ports.proofs.turns.Turns.choose.Given as goal

abbrev pub invariant-loop-c : goal.invariant-loop-c
invariant-loop-c l = AreChosen l.ready l.self l.chosen l.count l.c
