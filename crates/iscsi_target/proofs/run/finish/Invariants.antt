use Rattle.std.proofs.Common.{◌≡◌, ◌++◌, map, take, drop}
use Rattle.iscsi_world.specs.Runs.{finished}
use Rattle.iscsi_target.specs.Rows.{seen}
use Rattle.iscsi_target.proofs.run.finish.Given as goal

-- those so far are finished
abbrev pub invariant-loop-row : goal.invariant-loop-row
invariant-loop-row g l = map seen l.rows ≡ map (finished l.target) (take l.row-index (map seen l.initial.rows)) ++ drop l.row-index (map seen l.initial.rows)
