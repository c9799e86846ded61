-- Serial numbers of a window.
use Rattle.std.proofs.Common.{◌≡◌, ℕ, ◌+◌, ◌-◌, ◌^◌, ◌%◌, ◌<◌, ◌≤◌, ◌&&◌, refl, arith, inl, inr}
use Rattle.std.specs.Prelude.{nat_lt}
use Rattle.std.proofs.lemmas.Bool.Decides.{eqb_tells, nat_tests}
use Rattle.iscsi_order.specs.Serial.{distance, is_at_most}

-- a is at most b where b is ahead by less than half of all numbers
pub at_most_is : (a b : ℕ) → a < 2 ^ 32 → b < 2 ^ 32 → is_at_most a b ≡ nat_lt (distance a b) (2 ^ 31)
at_most_is a b p q = elim (eqb_tells a b) [
  | inl same ↦ let none : distance a b ≡ 0 = (let e = same.1 in omega arith) in rw (same.0, none) refl
  | inr differ ↦ let some : 0 < distance a b = (let ne = differ.1 in omega arith) in rw differ.0 (grind (arith, nat_tests))
]

-- how far a number is ahead of the last one of a window, and how far that is ahead of it
pub both_ways : (x size n : ℕ) → x < 2 ^ 32 → n < 2 ^ 32 → size ≤ 32
    → (nat_lt (distance x n) (2 ^ 31) && nat_lt (distance n ((x + size + (2 ^ 32 - 1)) % 2 ^ 32)) (2 ^ 31)) ≡ nat_lt (distance x n) size
both_ways x size n p q le = grind (arith, nat_tests)
