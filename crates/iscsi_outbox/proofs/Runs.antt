-- One run more.
use Rattle.std.proofs.Common.{◌≡◌, ◌<◌, ◌≤◌, ℕ, List, [], ◌∷◌, ◌++◌, ◌+◌, length, drop, slice_get, Some, refl, sym, ap, append_assoc, ◌∙◌, arith}
use Rattle.std.specs.List.{flat_map}
use Rattle.std.proofs.lemmas.List.{append-nil, drop_all, length-append}
use Rattle.std.proofs.lemmas.List.Concat.{flat_map-append}
use Rattle.iscsi_login.proofs.Lists.{drop_at}
use Rattle.iscsi_outbox.specs.declared.run.Run.{Run}
use Rattle.iscsi_outbox.specs.Outbox.{run_bytes, AreRunning}

pub running_more : (runs : List Run) (run : Run) → AreRunning runs → 0 < length run.data_ins → AreRunning (runs ++ run ∷ [])
running_more [] run running some = (some, tt)
running_more (r ∷ runs) run running some = (running.0, running_more runs run running.1 some)

pub bytes_more : (runs : List Run) (run : Run) → flat_map run_bytes (runs ++ run ∷ []) ≡ flat_map run_bytes runs ++ (run.before.items ++ run.data_ins)
bytes_more runs run = flat_map-append run_bytes runs (run ∷ []) ∙ ap (λ (xs : List ℕ). flat_map run_bytes runs ++ xs) (append-nil (run_bytes run))

-- a run has a byte
pub some_bytes : (runs : List Run) (tail : List ℕ) → AreRunning runs → 0 < length runs → 0 < length (flat_map run_bytes runs ++ tail)
some_bytes [] tail running some = absurd (omega arith)
some_bytes (r ∷ runs) tail running some =
    let bytes = running.0 in
    omega (
      arith,
      length-append (flat_map run_bytes (r ∷ runs)) tail,
      length-append (run_bytes r) (flat_map run_bytes runs),
      length-append r.before.items r.data_ins,
    )

-- the bytes of a run and of those after it
pub run_at : (runs : List Run) (place : ℕ) (run : Run) → slice_get runs place ≡ Some run
    → length (flat_map run_bytes (drop place runs)) ≡ length run.before.items + length run.data_ins + length (flat_map run_bytes (drop (place + 1) runs))
run_at runs place run found =
    ap (λ (rest : List Run). length (flat_map run_bytes rest)) (drop_at runs place run found)
    ∙ length-append (run_bytes run) (flat_map run_bytes (drop (place + 1) runs))
    ∙ ap (λ (n : ℕ). n + length (flat_map run_bytes (drop (place + 1) runs))) (length-append run.before.items run.data_ins)

-- where no byte waits, none does in front or after
pub none_before : (xs ys : List ℕ) → xs ++ ys ≡ [] → (xs ≡ []) × (ys ≡ [])
none_before [] ys none = (refl, none)
none_before (x ∷ xs) ys none = absurd cc

-- one more run was copied
pub runs_more : (runs : List Run) (place : ℕ) (run : Run) (old bytes new : List ℕ) → slice_get runs place ≡ Some run
    → bytes ++ flat_map run_bytes (drop place runs) ≡ old → new ≡ bytes ++ (run.before.items ++ run.data_ins)
    → new ++ flat_map run_bytes (drop (place + 1) runs) ≡ old
runs_more runs place run old bytes new found so_far more =
    ap (λ (xs : List ℕ). xs ++ flat_map run_bytes (drop (place + 1) runs)) more
    ∙ append_assoc bytes (run_bytes run) (flat_map run_bytes (drop (place + 1) runs))
    ∙ ap (λ (rest : List Run). bytes ++ flat_map run_bytes rest) (sym (drop_at runs place run found)) ∙ so_far

-- all were
pub runs_copied : (runs : List Run) (n : ℕ) (old bytes : List ℕ) → length runs ≤ n → bytes ++ flat_map run_bytes (drop n runs) ≡ old → bytes ≡ old
runs_copied runs n old bytes past e =
    sym (append-nil bytes) ∙ ap (λ (rest : List Run). bytes ++ flat_map run_bytes rest) (sym (drop_all n runs past)) ∙ e
