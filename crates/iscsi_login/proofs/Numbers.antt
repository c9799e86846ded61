-- Numerals as the library reads them.
use Rattle.std.proofs.Common.{◌≡◌, ◌≢◌, ℕ, suc, ◌^◌, ◌<◌, ◌≤◌, Bool, true, false, cond, ◌&&◌, ltb, List, [], ◌∷◌, length, get_or, Some, None, Result, Ok, Err, refl, ap, sym, ◌∙◌, arith}
use Rattle.std.specs.Char.{digit_value}
use Rattle.std.specs.List.{list_all}
use Rattle.std.specs.Option.{option_and_then}
use Rattle.std.specs.Result.{OkIff, result_ok}
use Rattle.std.specs.Str.Parse.{AllDigits, IsNumeral, digits_value, ParsesUnsigned}
use Rattle.std.proofs.lemmas.Bool.{ltb-true, lt-ltb, le-ltb, le-leb, lt-leb, and_parts}
use Rattle.std.proofs.lemmas.Str.Parse.{without_leading_plus_none}
use Rattle.iscsi_login.specs.Number.{is_digit, numeral, within}

all_digits : (radix : ℕ) (ds : List ℕ) → list_all (is_digit radix) ds ≡ true → AllDigits radix ds
all_digits radix [] e = tt
all_digits radix (d ∷ ds) e = let p = and_parts (is_digit radix d) (list_all (is_digit radix) ds) e in
    (ltb-true (digit_value d) radix p.0, all_digits radix ds p.1)

list_all_digits : (radix : ℕ) (ds : List ℕ) → AllDigits radix ds → list_all (is_digit radix) ds ≡ true
list_all_digits radix [] all = refl
list_all_digits radix (d ∷ ds) all = rw (lt-ltb (digit_value d) radix all.0, list_all_digits radix ds all.1) refl

within_all : (n : ℕ) → n < 2 ^ 32 → within 0 0xFFFFFFFF n ≡ Some n
within_all n lt = rw (le-leb 0 n (omega arith), le-leb n 0xFFFFFFFF (omega arith)) refl

beyond_all : (n : ℕ) → ¬ (n < 2 ^ 32) → within 0 0xFFFFFFFF n ≡ None
beyond_all n ge = rw (le-leb 0 n (omega arith), lt-leb n 0xFFFFFFFF (omega arith)) refl

-- what the library reads, where no sign stands in front
pub numeral_read : {E : Type 0} (radix : ℕ) (ds : List ℕ) (r : Result ℕ E) → get_or ds 0 0 ≢ 43 → ParsesUnsigned 32 radix ds r
    → result_ok r ≡ option_and_then (within 0 0xFFFFFFFF) (numeral radix ds)
unfolding numeral
numeral_read {E} radix ds r unsigned reads = by_form (ltb 0 (length ds) && list_all (is_digit radix) ds) refl r
    (rw (without_leading_plus_none ds unsigned) at reads)
  where
    is_numeral : (ltb 0 (length ds) && list_all (is_digit radix) ds) ≡ true → IsNumeral radix ds
    is_numeral e = let p = and_parts (ltb 0 (length ds)) (list_all (is_digit radix) ds) e in (ltb-true 0 (length ds) p.0, all_digits radix ds p.1)

    is_form : IsNumeral radix ds → (ltb 0 (length ds) && list_all (is_digit radix) ds) ≡ true
    is_form h = rw (lt-ltb 0 (length ds) h.0, list_all_digits radix ds h.1) refl

    by_form : (t : Bool) → (ltb 0 (length ds) && list_all (is_digit radix) ds) ≡ t → (r : Result ℕ E)
        → OkIff r (IsNumeral radix ds × (digits_value radix ds < 2 ^ 32)) (digits_value radix ds)
        → result_ok r ≡ option_and_then (within 0 0xFFFFFFFF) (cond t (Some (digits_value radix ds)) None)
    by_form true e (Ok n) reads = ap (λ v. Some v) reads.1 ∙ sym (within_all (digits_value radix ds) reads.0.1)
    by_form true e (Err x) reads = sym (beyond_all (digits_value radix ds) (λ lt. reads (is_numeral e, lt)))
    by_form false e (Ok n) reads = let t = is_form reads.0.0 in absurd cc
    by_form false e (Err x) reads = refl

-- a sign is no digit
pub numeral_signed : (radix : ℕ) (ds : List ℕ) → radix ≤ 16 → get_or ds 0 0 ≡ 43 → None ≡ option_and_then (within 0 0xFFFFFFFF) (numeral radix ds)
unfolding numeral
numeral_signed radix [] small e = refl
numeral_signed radix (d ∷ ds) small e =
    let d_is : d ≡ 43 = e in
    let no_digit : is_digit radix d ≡ false = rw d_is (le-ltb 36 radix (omega arith)) in
    rw (no_digit, lt-ltb 0 (suc (length ds)) (omega arith)) refl
