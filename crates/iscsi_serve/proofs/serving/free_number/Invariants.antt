use Rattle.std.proofs.Common.{◌≡◌, ◌-◌, not, find}
use Rattle.std.specs.List.{range_with_len}
use Rattle.iscsi_target.specs.History.{connections}
use Rattle.iscsi_target.specs.Machine.{is_open_at}
use Rattle.iscsi_serve.proofs.serving.free_number.Given as goal

-- none was free so far
abbrev pub invariant-loop-c : goal.invariant-loop-c
invariant-loop-c g l = find (λ c. not (is_open_at l.target c)) connections ≡ find (λ c. not (is_open_at l.target c)) (range_with_len l.c (64 - l.c))
