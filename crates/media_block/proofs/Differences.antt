-- Where bytes that are read differ from data.
use Rattle.std.proofs.Common.{◌≡◌, ℕ, ◌+◌, ◌-◌, ◌≤◌, List, [], ◌∷◌, ◌++◌, length, take, drop, slice_range, Some, None, option_map, refl, ap, sym, ◌∙◌, arith}
use Rattle.std.proofs.Math.Seq.{take-add}
use Rattle.std.proofs.lemmas.List.{drop-drop, length-append, length-take-le, take_all}
use Rattle.media_block.specs.Blocks.{first_difference}

-- bytes do not differ from themselves
pub first_difference-same : (bytes : List ℕ) → first_difference bytes bytes ≡ None
first_difference-same [] = refl
first_difference-same (byte ∷ bytes) = let later = first_difference-same bytes in grind (arith, later)

-- where the fronts are the same
first_difference-behind : (xs ys us vs : List ℕ) → length xs ≡ length ys → first_difference xs ys ≡ None
    → first_difference (xs ++ us) (ys ++ vs) ≡ option_map (λ at. at + length xs) (first_difference us vs)
first_difference-behind [] [] us vs long same = grind arith
first_difference-behind [] (y ∷ ys) us vs long same = absurd (omega arith)
first_difference-behind (x ∷ xs) [] us vs long same = absurd (omega arith)
first_difference-behind (x ∷ xs) (y ∷ ys) us vs long same =
    let later = first_difference-behind xs ys us vs (omega arith) in
    grind (arith, later)

-- where the fronts differ
first_difference-front : (xs ys us vs : List ℕ) (at : ℕ) → first_difference xs ys ≡ Some at → first_difference (xs ++ us) (ys ++ vs) ≡ Some at
first_difference-front [] ys us vs at differ = cc
first_difference-front (x ∷ xs) [] us vs at differ = cc
first_difference-front (x ∷ xs) (y ∷ ys) us vs at differ =
    let later = first_difference-front xs ys us vs in
    grind (arith, later)

-- a slice is that of its front, with that from there on
slice-more : (at k m : ℕ) (content : List ℕ)
    → slice_range content at (at + (k + m)) ≡ slice_range content at (at + k) ++ slice_range content (at + k) (at + k + m)
slice-more at k m content =
    let whole : at + (k + m) - at ≡ k + m = omega arith in
    let front : at + k - at ≡ k = omega arith in
    let later : at + k + m - (at + k) ≡ m = omega arith in
    rw (whole, front, later, take-add k m (drop at content), drop-drop k at content) refl

-- the first k bytes from a place on are there, and those of the data
pub record AreSame (at k : ℕ) (content «data» : List ℕ) : Type 0 where
  pub long : length (slice_range content at (at + k)) ≡ k
  pub same : first_difference (slice_range content at (at + k)) (take k «data») ≡ None

-- and of the p bytes from there on, which were read, one differs
pub found-difference : (at count k p n : ℕ) (held bytes content «data» : List ℕ) → k + p ≤ count → k ≤ length «data» → AreSame at k content «data»
    → held ≡ slice_range content (at + k) (at + k + p) → bytes ≡ take p (drop k «data») → Some n ≡ first_difference held bytes
    → Some (k + n) ≡ first_difference (slice_range content at (at + count)) (take count «data»)
found-difference at count k p n held bytes content «data» below enough before held_is bytes_is differ =
    let rest = count - k - p in
    let counts : count ≡ k + (p + rest) = omega arith in
    let as_long : length (slice_range content at (at + k)) ≡ length (take k «data») = before.long ∙ sym (length-take-le k «data» enough) in
    let here : first_difference (held ++ slice_range content (at + k + p) (at + k + p + rest)) (bytes ++ take rest (drop p (drop k «data»))) ≡ Some n =
    first_difference-front held bytes _ _ n (sym differ) in
    let place : k + n ≡ n + length (slice_range content at (at + k)) = omega (arith, before.long) in
    rw (
      counts,
      slice-more at k (p + rest) content,
      slice-more (at + k) p rest content,
      take-add k (p + rest) «data»,
      take-add p rest (drop k «data»),
      first_difference-behind (slice_range content at (at + k)) (take k «data») _ _ as_long before.same,
      ← held_is,
      ← bytes_is,
      here,
    )
    (ap (λ (x : ℕ). Some x) place)

-- and so are the p bytes from there on
pub same-more : (at k p : ℕ) (held bytes content «data» : List ℕ) → k ≤ length «data» → AreSame at k content «data» → length held ≡ p
    → held ≡ slice_range content (at + k) (at + k + p) → bytes ≡ take p (drop k «data») → None ≡ first_difference held bytes
    → AreSame at (k + p) content «data»
same-more at k p held bytes content «data» enough before held_long held_is bytes_is none =
    let as_long : length (slice_range content at (at + k)) ≡ length (take k «data») = before.long ∙ sym (length-take-le k «data» enough) in
    record {
      long = rw (slice-more at k p content, ← held_is) (simp length-append (omega (arith, held_long, before.long)));
      same = rw (
        slice-more at k p content,
        take-add k p «data»,
        first_difference-behind (slice_range content at (at + k)) (take k «data») _ _ as_long before.same,
        ← held_is,
        ← bytes_is,
        ← none,
      ) refl;
    }

-- the slice of bytes from their first on is the bytes
pub slice-whole : (bytes : List ℕ) → slice_range bytes 0 (0 + length bytes) ≡ bytes
slice-whole bytes =
    let all : 0 + length bytes - 0 ≡ length bytes = omega arith in
    rw all (take_all (length bytes) bytes (omega arith))
