use Rattle.std.proofs.Common.{◌≡◌, ◌++◌, map, take, drop}
use Rattle.iscsi_world.specs.Runs.{ended}
use Rattle.iscsi_target.specs.Rows.{seen}
use Rattle.iscsi_target.proofs.run.end.Given as goal

-- those so far are ended
abbrev pub invariant-loop-row : goal.invariant-loop-row
invariant-loop-row g l = map seen l.rows ≡ map (ended l.target l.c) (take l.row-index (map seen l.initial.rows)) ++ drop l.row-index (map seen l.initial.rows)
