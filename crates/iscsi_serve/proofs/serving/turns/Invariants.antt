use Rattle.std.proofs.Common.{◌≡◌, true}
use Rattle.iscsi_serve.specs.Turn.{Moment, log_of, beginning, Turns}
use Rattle.iscsi_serve.specs.Progress.{Keeps}
use Rattle.iscsi_serve.proofs.serving.turns.Given as goal

-- so many turns have ended
abbrev pub invariant-loop : goal.invariant-loop
invariant-loop g l =
    let log = g.P.Ports.log in
    let tells = g.P.Ports.tells in
    record {
      turned : tells l.ports ≡ true
          → (m : Moment) × (log l.ports ≡ log_of m) × (l.target ≡ m.target) × Turns l.counter (beginning l.fn.target (log l.fn.ports)) m;
      keeps : Keeps (tells l.fn.ports) (tells l.ports) (log l.fn.ports) (log l.ports) l.fn.target l.target;
    }
