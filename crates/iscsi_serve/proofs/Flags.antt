-- The flags that are true in the rest of a list.
use Rattle.std.proofs.Common.{◌≡◌, ℕ, zero, suc, ◌+◌, ◌<◌, ◌≤◌, List, [], ◌∷◌, length, get_or, Bool, true, false, refl, ap, ◌∙◌, arith}
use Rattle.iscsi_serve.specs.Named.{true_from}

after : (flags : List Bool) (c : ℕ) → true_from flags (suc c) ≡ true_from flags (c + 1)
after flags c = let e : suc c ≡ c + 1 = omega arith in ap (true_from flags) e

here : (flags : List Bool) (c : ℕ) → c < length flags → get_or flags c false ≡ true → true_from flags c ≡ suc (true_from flags (suc c))
here [] c lt e = absurd (omega (arith, lt))
here (flag ∷ flags) zero lt e = rw e refl
here (flag ∷ flags) (suc c) lt e = here flags c (omega (arith, lt)) e

not_here : (flags : List Bool) (c : ℕ) → get_or flags c false ≡ false → true_from flags c ≡ true_from flags (suc c)
not_here [] zero e = refl
not_here [] (suc c) e = refl
not_here (flag ∷ flags) zero e = rw e refl
not_here (flag ∷ flags) (suc c) e = not_here flags c e

pub one_here : (flags : List Bool) (c : ℕ) → c < length flags → get_or flags c false ≡ true → true_from flags c ≡ true_from flags (c + 1) + 1
one_here flags c lt e = here flags c lt e ∙ ap suc (after flags c) ∙ omega arith

pub none_here : (flags : List Bool) (c : ℕ) → get_or flags c false ≡ false → true_from flags c ≡ true_from flags (c + 1)
none_here flags c e = not_here flags c e ∙ after flags c

pub none_after : (flags : List Bool) (c : ℕ) → length flags ≤ c → true_from flags c ≡ 0
none_after [] zero le = refl
none_after [] (suc c) le = refl
none_after (flag ∷ flags) zero le = absurd (omega (arith, le))
none_after (flag ∷ flags) (suc c) le = none_after flags c (omega (arith, le))

pub none_left : (flags : List Bool) (c d : ℕ) → true_from flags c ≡ 0 → c ≤ d → get_or flags d false ≡ false
none_left [] c d none le = refl
none_left (true ∷ flags) zero d none le = absurd cc
none_left (false ∷ flags) zero zero none le = refl
none_left (false ∷ flags) zero (suc d) none le = none_left flags zero d none (omega arith)
none_left (flag ∷ flags) (suc c) zero none le = absurd (omega (arith, le))
none_left (flag ∷ flags) (suc c) (suc d) none le = none_left flags c d none (omega (arith, le))
