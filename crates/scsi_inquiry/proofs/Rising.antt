-- Numbers looked for one after the other.
use Rattle.std.proofs.Common.{◌≡◌, ℕ, ◌+◌, List, [], ◌∷◌, ◌++◌, Bool, true, false, cond, map, sym, append-nil, ◌∙◌, ap, refl, arith}
use Rattle.std.specs.List.{filter, range_with_len}
use Rattle.std.proofs.lemmas.List.{map-id}
use Rattle.std.proofs.lemmas.List.FromFn.{filter_of_map_range_with_len_more}
use Rattle.scsi_inquiry.specs.Luns.{is_among, rising}

-- one more number is looked for
found_more : (test : ℕ → Bool) (n : ℕ) → filter test (range_with_len 0 (n + 1)) ≡ filter test (range_with_len 0 n) ++ cond (test n) (n ∷ []) []
found_more test n =
    let more = filter_of_map_range_with_len_more test (λ (k : ℕ). k) 0 n n (omega arith) in
    let before : filter test (map (λ (k : ℕ). k) (range_with_len 0 n)) ≡ filter test (range_with_len 0 n) = ap (filter test) (map-id (range_with_len 0 n)) in
    let after : filter test (map (λ (k : ℕ). k) (range_with_len 0 (n + 1))) ≡ filter test (range_with_len 0 (n + 1)) =
    ap (filter test) (map-id (range_with_len 0 (n + 1))) in
    sym after ∙ more ∙ ap (λ (xs : List ℕ). xs ++ cond (test n) (n ∷ []) []) before

-- and is there, or is not
pub found_there : (test : ℕ → Bool) (n : ℕ) (list : List ℕ) → test n ≡ true → list ≡ filter test (range_with_len 0 n) → list
    ++ n ∷ [] ≡ filter test (range_with_len 0 (n + 1))
found_there test n list there found = rw (found_more test n, there, found) refl

pub found_none : (test : ℕ → Bool) (n : ℕ) (list : List ℕ) → test n ≡ false → list ≡ filter test (range_with_len 0 n)
    → list ≡ filter test (range_with_len 0 (n + 1))
found_none test n list none found = rw (found_more test n, none, append-nil) found

-- all numbers have been looked for
pub found_all : (numbers list : List ℕ) (n : ℕ) → n ≡ 256 → list ≡ filter (is_among numbers) (range_with_len 0 n) → list ≡ rising numbers
unfolding rising
found_all numbers list n whole found = found ∙ ap (λ (k : ℕ). filter (is_among numbers) (range_with_len 0 k)) whole
