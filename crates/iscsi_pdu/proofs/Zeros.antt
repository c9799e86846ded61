-- Bytes and zeros after them, which are only counted.
use Rattle.std.proofs.Common.{◌≡◌, ℕ, ◌+◌, ◌-◌, ◌≤◌, min, List, ◌++◌, length, take, drop, replicate, sym, ap, ◌∙◌, inl, inr, arith, append-nil, length-drop}
use Rattle.std.proofs.Math.Seq.{take-append-add, drop-append-add}
use Rattle.std.proofs.lemmas.Bool.{cases_lt}
use Rattle.std.proofs.lemmas.List.{take-append-le, drop-append-le, take_all, drop_all, drop-drop, take-replicate, drop-replicate}

-- ---- the front of two lists, and what follows it

pub drop_append : (n : ℕ) (xs ys : List ℕ) → drop n (xs ++ ys) ≡ drop n xs ++ drop (n - length xs) ys
drop_append n xs ys =
    elim (cases_lt (length xs) n) [
      | inl beyond ↦ (
          let m = n - length xs in
          let sum : n ≡ length xs + m = omega (arith, beyond) in
          ap (λ (k : ℕ). drop k (xs ++ ys)) sum ∙ drop-append-add xs ys m
          ∙ sym (ap (λ (l : List ℕ). l ++ drop m ys) (drop_all n xs (omega (arith, beyond)))))
      | inr within ↦ (
          let none : n - length xs ≡ 0 = omega (arith, within) in
          drop-append-le n xs ys within ∙ sym (ap (λ (k : ℕ). drop n xs ++ drop k ys) none))
    ]

pub take_append : (n : ℕ) (xs ys : List ℕ) → take n (xs ++ ys) ≡ take n xs ++ take (n - length xs) ys
take_append n xs ys =
    elim (cases_lt (length xs) n) [
      | inl beyond ↦ (
          let m = n - length xs in
          let sum : n ≡ length xs + m = omega (arith, beyond) in
          ap (λ (k : ℕ). take k (xs ++ ys)) sum ∙ take-append-add xs ys m
          ∙ sym (ap (λ (l : List ℕ). l ++ take m ys) (take_all n xs (omega (arith, beyond)))))
      | inr within ↦ (
          let none : n - length xs ≡ 0 = omega (arith, within) in
          take-append-le n xs ys within ∙ sym (ap (λ (k : ℕ). take n xs ++ take k ys) none ∙ append-nil (take n xs)))
    ]

-- ---- zeros after bytes

-- a part of them: bytes, and then zeros
pub part_with_zeros : (kept : List ℕ) (zeros from count start some : ℕ) → from + count ≤ length kept + zeros → start ≡ min from (length kept)
    → some ≡ min count (length kept - start)
    → take count (drop from (kept ++ replicate zeros 0)) ≡ take some (drop start kept) ++ replicate (count - some) 0
part_with_zeros kept zeros from count start some within start_is some_is =
    let left = drop from kept in
    let far = from - length kept in
    let long : length left ≡ length kept - from = length-drop from kept in
    let same : drop from kept ≡ drop start kept =
    elim (cases_lt (length kept) from) [
      | inl beyond ↦ drop_all from kept (omega (arith, beyond)) ∙ sym (drop_all start kept (omega (arith, beyond, start_is)))
      | inr inside ↦ ap (λ (n : ℕ). drop n kept) (let e : from ≡ start = omega (arith, inside, start_is) in e)
    ] in
    let front : take count left ≡ take some left =
    elim (cases_lt (length left) count) [
      | inl beyond ↦ take_all count left (omega (arith, beyond)) ∙ sym (take_all some left (omega (arith, beyond, long, start_is, some_is)))
      | inr inside ↦ ap (λ (n : ℕ). take n left) (let e : count ≡ some = omega (arith, inside, long, start_is, some_is) in e)
    ] in
    let number : count - length left ≡ count - some = omega (arith, long, start_is, some_is) in
    ap (take count) (drop_append from kept (replicate zeros 0) ∙ ap (λ (l : List ℕ). left ++ l) (drop-replicate far zeros 0))
    ∙ take_append count left (replicate (zeros - far) 0)
    ∙ ap (λ (l : List ℕ). take count left ++ l) (take-replicate (count - length left) (zeros - far) 0 (omega (arith, long, within)))
    ∙ ap (λ (n : ℕ). take count left ++ replicate n 0) number
    ∙ ap (λ (l : List ℕ). l ++ replicate (count - some) 0) (front ∙ ap (take some) same)

-- their front
pub front_with_zeros : (kept : List ℕ) (zeros count some : ℕ) → count ≤ length kept + zeros → some ≡ min count (length kept)
    → take count (kept ++ replicate zeros 0) ≡ take some kept ++ replicate (count - some) 0
front_with_zeros kept zeros count some within some_is =
    part_with_zeros kept zeros 0 count 0 some (omega (arith, within)) (omega arith) (omega (arith, some_is))

-- what follows a front that is kept
pub skip_kept : (items : List ℕ) (taken zeros n : ℕ) → taken ≤ length items → n ≤ length items - taken
    → drop (taken + n) items ++ replicate zeros 0 ≡ drop n (drop taken items ++ replicate zeros 0)
skip_kept items taken zeros n within few =
    ap (λ (l : List ℕ). l ++ replicate zeros 0) (sym (drop-drop n taken items))
    ∙ sym (drop-append-le n (drop taken items) (replicate zeros 0) (omega (arith, length-drop taken items, few)))

-- what follows all that is kept
pub skip_all : (items : List ℕ) (taken zeros n : ℕ) → taken ≤ length items → length items - taken ≤ n
    → replicate (zeros - (n - (length items - taken))) 0 ≡ drop n (drop taken items ++ replicate zeros 0)
skip_all items taken zeros n within enough =
    let long : length (drop taken items) ≡ length items - taken = length-drop taken items in
    sym (drop_append n (drop taken items) (replicate zeros 0)
    ∙ ap (λ (l : List ℕ). l ++ drop (n - length (drop taken items)) (replicate zeros 0)) (drop_all n (drop taken items) (omega (arith, long, enough)))
    ∙ drop-replicate (n - length (drop taken items)) zeros 0
    ∙ ap (λ (k : ℕ). replicate (zeros - (n - k)) 0) long)
