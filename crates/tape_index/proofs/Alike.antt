-- Sizes that are alike from one number to another.
use Rattle.std.proofs.Common.{◌≡◌, ℕ, zero, suc, ◌+◌, ◌-◌, ◌*◌, ◌≤◌, ◌<◌, List, [], ◌∷◌, ◌++◌}
use Rattle.std.proofs.Common.{take, drop, reverse, get_or, sum, refl, ap, sym, ◌∙◌, arith, append_assoc, add-one}
use Rattle.std.specs.Prelude.{replicate}
use Rattle.std.proofs.Math.Seq.{take-add}
use Rattle.std.proofs.lemmas.List.{length-replicate, take_at, drop_at, drop-drop, replicate-append-replicate, get_or-drop, get_or-replicate}
use Rattle.std.proofs.lemmas.List.{get_or_append_left, reverse-append, replicate_more}
use Rattle.std.proofs.lemmas.List.Folds.{sum_by-replicate}
use Rattle.std.proofs.lemmas.List.Sums.{sum_by-append}
use Rattle.tape_index.specs.Index.{AreAlike}

pub sum-append : (xs ys : List ℕ) → sum (xs ++ ys) ≡ sum xs + sum ys
sum-append xs ys = sum_by-append (λ n. n) xs ys

pub sum-replicate : (n size : ℕ) → sum (replicate n size) ≡ n * size
sum-replicate n size = sum_by-replicate (λ n. n) n size

pub reverse-replicate : (n size : ℕ) → reverse (replicate n size) ≡ replicate n size
reverse-replicate zero size = refl
reverse-replicate (suc n) size =
    reverse-append (size ∷ []) (replicate n size) ∙ ap (λ l. l ++ size ∷ []) (reverse-replicate n size) ∙ replicate_more n size
    ∙ ap (λ k. replicate k size) (add-one n)

-- so many of them in front of the others
pub split : (m n k size : ℕ) (rest : List ℕ) → m + k ≡ n → replicate n size ++ rest ≡ replicate m size ++ (replicate k size ++ rest)
split m n k size rest is =
    ap (λ i. replicate i size ++ rest) (sym is) ∙ ap (λ l. l ++ rest) (sym (replicate-append-replicate m k size))
    ∙ append_assoc (replicate m size) (replicate k size) rest

-- from a number between them on
pub alike-behind : (sizes : List ℕ) (first at next size : ℕ) → AreAlike sizes first next size → first ≤ at → at ≤ next → AreAlike sizes at next size
alike-behind sizes first at next size are low high =
    let there : first + (at - first) ≡ at = omega arith in
    record {
      is = ap (λ n. drop n sizes) (sym there) ∙ sym (drop-drop (at - first) first sizes)
          ∙ ap (drop (at - first)) (are.is ∙ split (at - first) (next - first) (next - at) size (drop next sizes) (omega arith))
          ∙ drop_at (replicate (at - first) size) (replicate (next - at) size ++ drop next sizes) (at - first) (length-replicate (at - first) size);
      within = are.within;
    }

-- and up to it
pub alike-front : (sizes : List ℕ) (first at next size : ℕ) → AreAlike sizes first next size → first ≤ at → at ≤ next → AreAlike sizes first at size
alike-front sizes first at next size are low high = record {
  is = are.is ∙ split (at - first) (next - first) (next - at) size (drop next sizes) (omega arith)
      ∙ ap (λ l. replicate (at - first) size ++ l) (sym (alike-behind sizes first at next size are low high).is);
  within = omega (arith, are.within);
}

pub alike-taken : (sizes : List ℕ) (first next size : ℕ) → AreAlike sizes first next size → first ≤ next
    → take next sizes ≡ take first sizes ++ replicate (next - first) size
alike-taken sizes first next size are low =
    let there : first + (next - first) ≡ next = omega arith in
    ap (λ n. take n sizes) (sym there) ∙ take-add first (next - first) sizes
    ∙ ap (λ l. take first sizes ++ l) (ap (take (next - first)) are.is
    ∙ take_at (replicate (next - first) size) (drop next sizes) (next - first) (length-replicate (next - first) size))

pub alike-sum : (sizes : List ℕ) (first next size : ℕ) → AreAlike sizes first next size → first ≤ next
    → sum (take next sizes) ≡ sum (take first sizes) + (next - first) * size
alike-sum sizes first next size are low =
    ap sum (alike-taken sizes first next size are low) ∙ sum-append (take first sizes) (replicate (next - first) size)
    ∙ ap (λ n. sum (take first sizes) + n) (sum-replicate (next - first) size)

pub alike-back : (sizes : List ℕ) (first next size : ℕ) → AreAlike sizes first next size → first ≤ next
    → reverse (take next sizes) ≡ replicate (next - first) size ++ reverse (take first sizes)
alike-back sizes first next size are low =
    ap reverse (alike-taken sizes first next size are low) ∙ reverse-append (take first sizes) (replicate (next - first) size)
    ∙ ap (λ l. l ++ reverse (take first sizes)) (reverse-replicate (next - first) size)

pub alike-size : (sizes : List ℕ) (first next size : ℕ) → AreAlike sizes first next size → first < next → get_or sizes first 0 ≡ size
alike-size sizes first next size are low =
    let none : first + 0 ≡ first = omega arith in
    ap (λ n. get_or sizes n 0) (sym none) ∙ sym (get_or-drop first sizes 0 0) ∙ ap (λ l. get_or l 0 0) are.is
    ∙ get_or_append_left (replicate (next - first) size) (drop next sizes) 0 0 (omega (arith, length-replicate (next - first) size))
    ∙ get_or-replicate (next - first) 0 size 0 (omega arith)
