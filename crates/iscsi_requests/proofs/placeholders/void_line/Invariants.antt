use Rattle.std.proofs.Common.{take}
use Rattle.iscsi_requests.specs.RequestQueue.{Voids}
use Rattle.iscsi_requests.proofs.placeholders.void_line.Given as goal

-- those so far are voided
abbrev pub invariant-loop-key : goal.invariant-loop-key
invariant-loop-key l = Voids l.reach (take l.key-index l.keys) l.initial.requests l.requests
