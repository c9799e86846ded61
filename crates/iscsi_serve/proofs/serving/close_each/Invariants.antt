use Rattle.std.specs.List.{range_with_len}
use Rattle.iscsi_serve.specs.Turn.{Closes, InOrder}
use Rattle.iscsi_serve.specs.Progress.{StepsBy}
use Rattle.iscsi_serve.proofs.serving.close_each.Given as goal

-- those of the connections so far
abbrev pub invariant-loop-c : goal.invariant-loop-c
invariant-loop-c g l =
    let log = g.P.Ports.log in
    let tells = g.P.Ports.tells in
    StepsBy (InOrder Closes (range_with_len 0 l.c)) (tells l.fn.ports) (tells l.ports) (log l.fn.ports) (log l.ports) l.fn.target l.target l.fn.ended l.ended
