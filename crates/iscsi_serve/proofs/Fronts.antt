-- What is offered is a front of what waits.
use Rattle.std.proofs.Common.{◌≡◌, ℕ, ◌<◌, ◌≤◌, List, [], ◌∷◌, ◌++◌, length, take, drop, suc, false, eqb, refl, sym, ap, ◌∙◌, arith, rules}
use Rattle.std.proofs.lemmas.List.{take-append-drop, length-take}

pub offered_front : (offered waiting : List ℕ) → offered ≡ take (length offered) waiting → waiting ≡ offered ++ drop (length offered) waiting
offered_front offered waiting front =
    sym (take-append-drop (length offered) waiting) ∙ ap (λ (xs : List ℕ). xs ++ drop (length offered) waiting) (sym front)

-- it is no longer
pub offered_within : (offered waiting : List ℕ) → offered ≡ take (length offered) waiting → length offered ≤ length waiting
offered_within offered waiting front = omega (arith, ap (λ (xs : List ℕ). length xs) front, length-take (length offered) waiting)

-- where something waits some of it is offered, so where none is, nothing waits
pub none_offered : (offered waiting : List ℕ) → (0 < length waiting → 0 < length offered) → length offered ≡ 0 → waiting ≡ []
none_offered offered [] some none = refl
none_offered offered (byte ∷ bytes) some none = (let is = some (omega arith) in absurd (omega arith))

pub not_zero : (n : ℕ) → eqb (suc n) 0 ≡ false
not_zero n = search rules

pub same_none : (offered waiting : List ℕ) → offered ≡ take (length offered) waiting → (0 < length waiting → 0 < length offered)
    → eqb (length offered) 0 ≡ eqb (length waiting) 0
same_none [] waiting front some = ap (λ (xs : List ℕ). eqb (length xs) 0) (sym (none_offered [] waiting some refl))
same_none (byte ∷ bytes) [] front some = absurd cc
same_none (byte ∷ bytes) (first ∷ more) front some = not_zero (length bytes) ∙ sym (not_zero (length more))
