-- The numbers in a set from one of them on.
use Rattle.std.proofs.Common.{◌≡◌, ℕ, ◌+◌, ◌-◌, ◌/◌, ◌%◌, ◌^◌, ◌<◌, ◌≤◌, false, eqb, w64, sym, ap, ◌∙◌, inl, inr, arith}
use Rattle.std.specs.Int.{bit_at, trailing_zeros}
use Rattle.std.proofs.lemmas.Bool.{cases_lt}
use Rattle.std.proofs.lemmas.Nat.{shr-shr, shr_le}
use Rattle.std.proofs.lemmas.Nat.Bits.{bit_at-zero, bit_at_above, bit_at-trailing_zeros}
use Rattle.iscsi_connection.specs.NumberSet.{is_in}

-- a bit from k on stands as far after the front of what a shift by k leaves
bit_behind : (n k d : ℕ) → k ≤ d → bit_at n d ≡ bit_at (n / 2 ^ k) (d - k)
bit_behind n k d le =
    let split : d ≡ k + (d - k) = omega arith in
    ap (λ (r : ℕ). r % 2) (ap (λ (e : ℕ). n / 2 ^ e) split ∙ sym (shr-shr n k (d - k)))

pub none_behind : (n k d : ℕ) → n / 2 ^ k ≡ 0 → k ≤ d → is_in n d ≡ false
unfolding is_in
none_behind n k d none le =
    ap (λ (b : ℕ). eqb b 1) (bit_behind n k d le ∙ ap (λ (r : ℕ). bit_at r (d - k)) none ∙ bit_at-zero (d - k))

pub none_before : (n k d : ℕ) → n < 2 ^ 64 → 0 < n / 2 ^ k → k ≤ d → d < k + trailing_zeros w64 (n / 2 ^ k) → is_in n d ≡ false
unfolding is_in
none_before n k d small some le lt =
    let r = n / 2 ^ k in
    let first = bit_at-trailing_zeros w64 r some (let less = shr_le n k in omega (arith, less, small)) in
    ap (λ (b : ℕ). eqb b 1) (bit_behind n k d le ∙ first.2 (d - k) (omega (arith, le, lt)))

pub found_within : (n k : ℕ) → n < 2 ^ 64 → 0 < n / 2 ^ k → k + trailing_zeros w64 (n / 2 ^ k) < 64
found_within n k small some =
    let r = n / 2 ^ k in
    let t = trailing_zeros w64 r in
    let first = bit_at-trailing_zeros w64 r some (let less = shr_le n k in omega (arith, less, small)) in
    elim (cases_lt (k + t) 64) [
      | inl lt ↦ lt
      | inr above ↦ (
          let there : bit_at n (k + t) ≡ 1 = bit_behind n k (k + t) (omega arith)
          ∙ ap (λ (i : ℕ). bit_at r i) (let e : k + t - k ≡ t = omega arith in e) ∙ first.1 in
          let none : bit_at n (k + t) ≡ 0 = bit_at_above n 64 (k + t) small above in
          absurd (omega (arith, there, none)))
    ]
