use Rattle.std.proofs.Common.{take}
use Rattle.iscsi_requests.specs.RequestQueue.{Voids, keys_in}
use Rattle.iscsi_requests.proofs.placeholders.void_held.Given as goal

-- those so far are voided
abbrev pub invariant-loop-key : goal.invariant-loop-key
invariant-loop-key l = Voids l.reach (keys_in (take l.key-index l.keys)) l.initial.requests l.requests
