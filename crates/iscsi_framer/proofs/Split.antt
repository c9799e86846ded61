-- The first bytes of a list, and those after them.
use Rattle.std.proofs.Common.{◌≡◌, ℕ, ◌+◌, ◌-◌, ◌≤◌, min, List, ◌++◌, length, take, drop, refl, sym, ap, ◌∙◌, inl, inr, arith, append_assoc, append-nil, length-append}
use Rattle.std.proofs.lemmas.Bool.{cases_lt}
use Rattle.std.proofs.lemmas.List.{take_at, drop_at, drop-drop, take-append-drop}
use Rattle.iscsi_framer.specs.Framer.{IsSplit}

-- ---- where there are n

pub front_full : (n : ℕ) (f b : List ℕ) → IsSplit n f b → n ≤ length (f ++ b) → length f ≡ n
front_full n f b s there =
    let short = s.short in
    elim (cases_lt (length f) n) [
      | inl fewer ↦ (
          let none : length b ≡ 0 = ap (λ (x : List ℕ). length x) (s.whole fewer) in
          absurd (omega (arith, there, length-append f b, none, fewer)))
      | inr all ↦ omega (arith, short, all)
    ]

pub front_taken : (n : ℕ) (f b : List ℕ) → IsSplit n f b → n ≤ length (f ++ b) → take n (f ++ b) ≡ f
front_taken n f b s there = take_at f b n (front_full n f b s there)

pub behind_dropped : (n k : ℕ) (f b : List ℕ) → IsSplit n f b → n ≤ length (f ++ b) → drop (n + k) (f ++ b) ≡ drop k b
behind_dropped n k f b s there =
    sym (drop-drop k n (f ++ b)) ∙ ap (λ (x : List ℕ). drop k x) (drop_at f b n (front_full n f b s there))

-- ---- the first of a list

-- ---- more bytes after

-- so many of them belong to the front
pub fed : (n k : ℕ) (f b p : List ℕ) → IsSplit n f b → k ≡ min (length p) (n - length f) → (f ++ take k p) ++ (b ++ drop k p) ≡ (f ++ b) ++ p
fed n k f b p s e =
    elim (cases_lt (length f) n) [
      | inl fewer ↦
          rw (s.whole fewer, append-nil f, append_assoc f (take k p) (drop k p), take-append-drop k p) refl
      | inr all ↦ (
          let none : k ≡ 0 = omega (arith, e, all) in
          rw (none, append-nil f, ← append_assoc f b p) refl)
    ]
