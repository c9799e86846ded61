-- Texts of different lengths.
use Rattle.std.proofs.Common.{◌≡◌, ℕ, List, [], ◌∷◌, ◌==◌, ◌&&◌, length, bytes_eq, nat_eq, false, Bool, refl, ap, ◌∙◌, arith}
use Rattle.std.proofs.Math.Bool.{and-false}
use Rattle.std.proofs.lemmas.Bool.Decides.{nat_tests}

pub lengths_differ : (xs ys : List ℕ) → (length xs == length ys) ≡ false → bytes_eq xs ys ≡ false
lengths_differ [] [] other = absurd (grind (arith, nat_tests))
lengths_differ [] (y ∷ ys) other = refl
lengths_differ (x ∷ xs) [] other = refl
lengths_differ (x ∷ xs) (y ∷ ys) other =
    let rest : (length xs == length ys) ≡ false = grind (arith, nat_tests) in
    ap (λ (b : Bool). nat_eq x y && b) (lengths_differ xs ys rest) ∙ and-false (nat_eq x y)
