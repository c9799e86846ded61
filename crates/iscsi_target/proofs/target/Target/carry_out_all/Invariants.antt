use Rattle.std.proofs.Common.{◌<◌, length, take, Some, None}
use Rattle.std.specs.List.{fold}
use Rattle.iscsi_world.specs.World.{carry_out}
use Rattle.iscsi_world.specs.Serving.{StaysWithin, CarriesOut}
use Rattle.iscsi_target.proofs.target.Target.carry_out_all.Given as goal

-- those so far are carried out
abbrev pub invariant-loop-function : goal.invariant-loop-function
invariant-loop-function g l = CarriesOut (λ w. fold (carry_out l.c l.target) w (take l.function-index l.functions)) l.initial.self l.self
    × StaysWithin (Some l.target) None l.initial.self l.self × (l.target < length l.self.units)
