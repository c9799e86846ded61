use Rattle.std.proofs.Common.{◌≡◌, length}
use Rattle.iscsi_session.proofs.serving.keep_buffers.Given as goal

abbrev pub invariant-loop-buffer : goal.invariant-loop-buffer
invariant-loop-buffer g l = l.units ≡ l.initial.units

abbrev pub decreases-loop-buffer : goal.decreases-loop-buffer
decreases-loop-buffer g l = length l.parts
