-- From one moment of a turn to the next.
use Rattle.std.proofs.Common.{◌≡◌, ℕ, ◌+◌, zero, suc, List, [], ◌∷◌, ◌++◌, Bool, refl, ap, ◌∙◌, subst, sym, arith, append_assoc}
use Rattle.std.specs.List.{range_with_len}
use Rattle.iscsi_target.specs.Machine.{Machine}
use Rattle.iscsi_ports.specs.Log.{Entry}
use Rattle.iscsi_serve.specs.Turn.{Moment, moment, InOrder}
use Rattle.iscsi_serve.specs.Progress.{AreEnded, MovesBy}

-- ---- one more of each connection

range_more : (a n : ℕ) → range_with_len a (suc n) ≡ range_with_len a n ++ (a + n) ∷ []
range_more a zero = ap (λ (n : ℕ). n ∷ []) (omega arith)
range_more a (suc n) = ap (λ (ns : List ℕ). a ∷ ns) (range_more (a + 1) n ∙ ap (λ (m : ℕ). range_with_len (a + 1) n ++ m ∷ []) (omega arith))

along_push : (R : ℕ → Moment → Moment → Type 0) (cs : List ℕ) (c : ℕ) (m n end : Moment) → InOrder R cs m n → R c n end → InOrder R (cs ++ c ∷ []) m end
along_push R [] c m n end so_far step = (end, subst (λ (from : Moment). R c from end) so_far step, refl)
along_push R (d ∷ cs) c m n end so_far step = (so_far.0, so_far.1, along_push R cs c so_far.0 n end so_far.2 step)

pub along_next : (R : ℕ → Moment → Moment → Type 0) (c : ℕ) (m n end : Moment) → InOrder R (range_with_len 0 c) m n → R c n end
    → InOrder R (range_with_len 0 (c + 1)) m end
along_next R c m n end so_far step =
    let one_more : c + 1 ≡ suc c = omega arith in
    let same : 0 + c ≡ c = omega arith in
    let cs : range_with_len 0 (c + 1) ≡ range_with_len 0 c ++ c ∷ [] = ap (range_with_len 0) one_more ∙ range_more 0 c ∙ ap
    (λ (d : ℕ). range_with_len 0 c ++ d ∷ []) same in
    subst (λ (cs : List ℕ). InOrder R cs m end) (sym cs) (along_push R (range_with_len 0 c) c m n end so_far step)

-- ---- by no entry, or by one

pub none_more : (R : Moment → Moment → Type 0) (log : List Entry) (target : Machine) (ended : List Bool)
    → ((before turn : List Entry) → AreEnded ended turn → R (moment target before turn) (moment target before turn))
    → MovesBy R log log target target ended ended
none_more R log target ended does = λ before turn at are. (turn, at, are, does before turn are)

pub one_more : (R : Moment → Moment → Type 0) (log log_then : List Entry) (target target_then : Machine) (ended ended_then : List Bool) (entry : Entry)
    → ((turn : List Entry) → AreEnded ended turn → AreEnded ended_then (turn ++ entry ∷ [])) → log_then ≡ log ++ entry ∷ []
    → ((before turn : List Entry) → AreEnded ended turn → R (moment target before turn) (moment target_then before (turn ++ entry ∷ [])))
    → MovesBy R log log_then target target_then ended ended_then
one_more R log log_then target target_then ended ended_then entry are_then e does = λ before turn at are.
    (turn ++ entry ∷ [], e ∙ ap (λ (log : List Entry). log ++ entry ∷ []) at ∙ append_assoc before turn (entry ∷ []), are_then turn are, does before turn are)
