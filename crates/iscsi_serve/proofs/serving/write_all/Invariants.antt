use Rattle.std.proofs.Common.{◌≡◌, ◌≤◌, ◌-◌, ◌<◌, ℕ, get_or, false}
use Rattle.std.specs.List.{range_with_len}
use Rattle.iscsi_serve.specs.Turn.{Writes, InOrder}
use Rattle.iscsi_serve.specs.Progress.{StepsBy, NoneToClose}
use Rattle.iscsi_serve.proofs.serving.write_all.Given as goal

-- those of the connections so far; and where no close is due of these, none of the others had ended before
abbrev pub invariant-loop-c : goal.invariant-loop-c
invariant-loop-c g l =
    let log = g.P.Ports.log in
    let tells = g.P.Ports.tells in
    record {
      does : StepsBy (InOrder Writes (range_with_len 0 l.from)) (tells l.fn.ports) (tells l.ports) (log l.fn.ports) (log l.ports) l.fn.target l.target
          l.fn.ended l.ended;
      due : l.has_closes ≡ false → NoneToClose l.from l.ended l.target;
      none : l.has_closes ≡ false → (d : ℕ) → l.from ≤ d → d < 64 → get_or l.ended d false ≡ false;
      within : l.from ≤ 64;
    }

abbrev pub decreases-loop-c : goal.decreases-loop-c
decreases-loop-c g l = 64 - l.from
