use Rattle.std.proofs.Common.{length}
use Rattle.iscsi_world.specs.Machine.{link_at}
use Rattle.iscsi_world.specs.Serving.{first_starved, kept_piece}
use Rattle.iscsi_target.proofs.Bytes.{TakesOn, joined}
use Rattle.iscsi_target.proofs.target.Target.take_frames.Given as goal

-- some of the PDUs are taken
abbrev pub invariant-loop-rest : goal.invariant-loop-rest
invariant-loop-rest g l = TakesOn l.c (first_starved l.outcome) (kept_piece l.c l.piece l.initial.self) l.rest l.self

-- each that is taken leaves fewer bytes
abbrev pub decreases-loop-rest : goal.decreases-loop-rest
decreases-loop-rest g l = length (link_at (joined l.c l.rest l.self) l.c).half
