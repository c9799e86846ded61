use Rattle.std.proofs.Common.{◌≡◌}
use Rattle.std.specs.List.{range_with_len}
use Rattle.iscsi_serve.specs.Named.{named_from}
use Rattle.iscsi_serve.specs.Turn.{Reads, InOrder}
use Rattle.iscsi_serve.specs.Progress.{StepsBy}
use Rattle.iscsi_serve.proofs.serving.read_all.Given as goal

-- those of the connections so far; and as many are left as were named of the others
abbrev pub invariant-loop-c : goal.invariant-loop-c
invariant-loop-c g l =
    let log = g.P.Ports.log in
    let tells = g.P.Ports.tells in
    record {
      does : StepsBy (InOrder (Reads l.named) (range_with_len 0 l.c)) (tells l.fn.ports) (tells l.ports) (log l.fn.ports) (log l.ports) l.fn.target l.target
          l.fn.ended l.ended;
      left : l.unread ≡ named_from l.named l.c;
    }
