use Rattle.std.proofs.Common.{◌-◌, ◌<◌, ◌≤◌, length, Some}
use Rattle.iscsi_world.specs.Serving.{StaysWithin, first_starved}
use Rattle.iscsi_world.proofs.Frames.{SettledBelow}
use Rattle.iscsi_target.proofs.target.Target.settle.Given as goal

-- the connections below the next one are settled
abbrev pub invariant-loop-c : goal.invariant-loop-c
invariant-loop-c g l = SettledBelow l.target l.from (first_starved l.outcome) l.initial.self l.self
    × StaysWithin (Some l.target) (first_starved l.outcome) l.initial.self l.self × (l.target < length l.self.units) × (l.from ≤ 64)

abbrev pub decreases-loop-c : goal.decreases-loop-c
decreases-loop-c g l = 64 - l.from
