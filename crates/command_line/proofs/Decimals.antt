-- Numbers in decimal digits.
use Rattle.std.proofs.Common.{◌≡◌, ℕ, ◌^◌, ◌<◌, ◌≤◌, List, [], ◌∷◌, length, Bool, true, false, ◌&&◌, cond, Some, None, refl, ap, arith}
use Rattle.std.specs.Prelude.{nat_lt}
use Rattle.std.specs.List.{list_all}
use Rattle.std.specs.Char.{is_ascii_digit, digit_value}
use Rattle.std.specs.Str.Parse.{AllDigits, IsNumeral, digits_value, without_leading_plus}
use Rattle.std.proofs.lemmas.Bool.{ltb-true, ltb-false, leb-true, lt-ltb}
use Rattle.std.proofs.lemmas.Str.Parse.{without_leading_plus_none}
use Rattle.command_line.specs.Turns.{decimal_of}

-- a number in decimal digits, below 2^64
abbrev IsDecimal : List ℕ → Type 0
IsDecimal text = IsNumeral 10 text × (digits_value 10 text < 2 ^ 64)

-- and this is the number
abbrev IsDecimalOf : ℕ → List ℕ → Type 0
IsDecimalOf n text = IsDecimal text × (n ≡ digits_value 10 text)

both : (a b : Bool) → (a && b) ≡ true → (a ≡ true) × (b ≡ true)
both true b e = (refl, e)
both false b e = absurd cc

digit_by : (low high : Bool) (c : ℕ) → nat_lt c 48 ≡ low → nat_lt c 58 ≡ high → 48 ≤ c → c ≤ 57 → digit_value c < 10
digit_by true high c e f from to = let below = ltb-true c 48 e in absurd (omega (arith, below))
digit_by false true c e f from to = rw (e, f) (omega (arith, from, to))
digit_by false false c e f from to = let above = ltb-false c 58 f in absurd (omega (arith, above))

all_digits : (text : List ℕ) → list_all is_ascii_digit text ≡ true → AllDigits 10 text
all_digits [] e = tt
all_digits (c ∷ text) e =
    let here = both (is_ascii_digit c) (list_all is_ascii_digit text) e in
    let range = both _ _ here.0 in
    let from = leb-true 48 c range.0 in
    let to = leb-true c 57 range.1 in
    (digit_by (nat_lt c 48) (nat_lt c 58) c refl refl from to, all_digits text here.1)

-- digits begin with no plus sign
no_plus : (text : List ℕ) → list_all is_ascii_digit text ≡ true → without_leading_plus text ≡ text
no_plus [] e = refl
no_plus (c ∷ text) e =
    let here = both (is_ascii_digit c) (list_all is_ascii_digit text) e in
    let from : 48 ≤ c = leb-true 48 c (both _ _ here.0).0 in
    without_leading_plus_none (c ∷ text) (λ plus. absurd (omega (arith, plus, from)))

-- ---- digits, as std reads them

module _ (text : List ℕ) (some : 0 < length text) (all : list_all is_ascii_digit text ≡ true) where
  pub decimal_read : (n : ℕ) → IsDecimalOf n (without_leading_plus text) → Some n ≡ decimal_of text
  decimal_read n p =
      let read : IsDecimalOf n text = rw (no_plus text all) at p in
      rw (lt-ltb 0 (length text) some, all, lt-ltb (digits_value 10 text) (2 ^ 64) read.0.1) (ap Some read.1)

  none_by : (fits : Bool) → nat_lt (digits_value 10 text) (2 ^ 64) ≡ fits → (IsDecimal text → ⊥) → None ≡ cond fits (Some (digits_value 10 text)) None
  none_by true e p = absurd (p ((some, all_digits text all), ltb-true (digits_value 10 text) (2 ^ 64) e))
  none_by false e p = refl

  pub decimal_unread : (IsDecimal (without_leading_plus text) → ⊥) → None ≡ decimal_of text
  decimal_unread p =
      let none : IsDecimal text → ⊥ = rw (no_plus text all) at p in
      rw (lt-ltb 0 (length text) some, all) (none_by (nat_lt (digits_value 10 text) (2 ^ 64)) refl none)
