-- The lowest number for which a test holds, found in turn.
use Rattle.std.proofs.Common.{◌≡◌, ℕ, ◌+◌, ◌-◌, ◌<◌, suc, ◌∷◌, Bool, true, false, refl, ap, arith}
use Rattle.std.specs.Prelude.{find, unwrap_or}
use Rattle.std.specs.List.{range_with_len}
use Rattle.target_limits.specs.Numbers.{connections}

range_next : (c : ℕ) → c < 64 → range_with_len c (64 - c) ≡ c ∷ range_with_len (c + 1) (64 - (c + 1))
range_next c lt =
    let more : 64 - c ≡ suc (64 - (c + 1)) = omega arith in
    ap (range_with_len c) more

pub free_here : (P : ℕ → Bool) (c : ℕ) → c < 64 → P c ≡ true → find P connections ≡ find P (range_with_len c (64 - c)) → c ≡ unwrap_or (find P connections) 64
free_here P c lt e from = rw (from, range_next c lt, e) refl

pub free_next : (P : ℕ → Bool) (c : ℕ) → c < 64 → P c ≡ false → find P connections ≡ find P (range_with_len c (64 - c))
    → find P connections ≡ find P (range_with_len (c + 1) (64 - (c + 1)))
free_next P c lt e from = rw (from, range_next c lt, e) refl
