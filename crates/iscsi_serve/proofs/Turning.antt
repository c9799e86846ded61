-- One turn after the other.
use Rattle.std.proofs.Common.{◌≡◌, ℕ, ◌+◌, ◌<◌, suc, List, sym, subst, arith, Result, Err}
use Rattle.iscsi_target.specs.Machine.{Machine}
use Rattle.iscsi_ports.specs.Log.{Entry}
use Rattle.iscsi_serve.specs.Turn.{Moment, log_of, beginning, IsTurn, EndsTurn, next, Turns, EndsTurns}
use Rattle.iscsi_serve.specs.declared.fault.ServeFault.{ServeFault}

-- a turn that began where these turns ended
from_there : (P : Moment → Type 0) (after : Moment) (log : List Entry) (target : Machine) → log ≡ log_of after → target ≡ after.target
    → P (beginning target log) → P (next after)
from_there P after log target e f p =
    subst (λ (target : Machine). P (beginning target (log_of after))) f (subst (λ (log : List Entry). P (beginning target log)) e p)

pub turn_next : (k : ℕ) (m after n : Moment) (log : List Entry) (target : Machine) → log ≡ log_of after → target ≡ after.target → Turns k m after
    → IsTurn (beginning target log) n → Turns (k + 1) m n
turn_next k m after n log target e f so_far turn =
    let more : k + 1 ≡ suc k = omega arith in
    subst (λ (k : ℕ). Turns k m n) (sym more) (after, so_far, from_there (λ m. IsTurn m n) after log target e f turn)

-- a fault ends them
pub turns_end : (count k : ℕ) (m after n : Moment) (log : List Entry) (target : Machine) (fault : ServeFault) (result : Result (Unit {0}) ServeFault)
    → result ≡ Err fault → log ≡ log_of after → target ≡ after.target → k < count → Turns k m after
    → EndsTurn (beginning target log) (Err fault) n → EndsTurns count m result n
turns_end count k m after n log target fault result is e f lt so_far ends =
    rw is (k, lt, (after, so_far, from_there (λ m. EndsTurn m (Err fault) n) after log target e f ends))
