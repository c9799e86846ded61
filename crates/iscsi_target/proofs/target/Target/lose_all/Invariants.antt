use Rattle.std.proofs.Common.{◌<◌, length, Some, None}
use Rattle.iscsi_world.specs.Serving.{StaysWithin, CarriesOut}
use Rattle.iscsi_world.proofs.Carrying.{lost_below}
use Rattle.iscsi_target.proofs.target.Target.lose_all.Given as goal

-- the sessions of the connections below the next one have lost what is reached
abbrev pub invariant-loop-d : goal.invariant-loop-d
invariant-loop-d g l = CarriesOut (lost_below l.function l.target l.c l.d) l.initial.self l.self
    × StaysWithin (Some l.target) None l.initial.self l.self × (l.target < length l.self.units)
