-- A text cut at its first zero byte.
use Rattle.std.proofs.Common.{◌≡◌, ℕ, ◌<◌, ◌≤◌, Bool, ltb, List, length, Some, None, refl, sym, ◌∙◌, arith, inl, inr}
use Rattle.std.specs.Prelude.{position}
use Rattle.std.specs.List.{position_or_len}
use Rattle.std.proofs.lemmas.Bool.{ltb-true, ltb-false, cases_Bool}

pub first_place : (p : ℕ → Bool) (xs : List ℕ) (i : ℕ) → position p xs ≡ Some i → (position_or_len p xs ≡ i) × (i < length xs)
first_place p xs i e = elim (cases_Bool (ltb (position_or_len p xs) (length xs))) [
  | inl found ↦
      let same : Some i ≡ Some (position_or_len p xs) = sym e ∙ rw found refl in
      let place : i ≡ position_or_len p xs = cc in
      (cc, omega (arith, ltb-true _ _ found))
  | inr missing ↦ let same : Some i ≡ None = sym e ∙ rw missing refl in absurd cc
]

pub no_place : (p : ℕ → Bool) (xs : List ℕ) → position p xs ≡ None → length xs ≤ position_or_len p xs
no_place p xs e = elim (cases_Bool (ltb (position_or_len p xs) (length xs))) [
  | inl found ↦ let same : None ≡ Some (position_or_len p xs) = sym e ∙ rw found refl in absurd cc
  | inr missing ↦ ltb-false _ _ missing
]
