-- Bytes that are written slice by slice, one after the other.
use Rattle.std.proofs.Common.{◌≡◌, ℕ, ◌+◌, ◌-◌, ◌≤◌, min, List, ◌++◌, length, take, drop, refl, ap, sym, ◌∙◌, arith, rules}
use Rattle.std.proofs.Math.Seq.{take-add}
use Rattle.std.proofs.lemmas.Bool.{cases_lt}
use Rattle.std.proofs.lemmas.List.{append-nil, nil_from_length, take-take, take-append-le, drop-drop, drop_at, length-take-le, same_lists, places}
use Rattle.media_store.specs.Content.{overlaid, written, KeepsOutside}
use Rattle.media_store.proofs.Writes.{written-some}
use Rattle.media_store.proofs.PartsWritten.{written-none, written-written, KeepsOutside-written}
use Rattle.std.proofs.Common.{inl, inr}

-- the first n bytes of two slices
pub take-joined : (n : ℕ) (first second : List ℕ) → take n (first ++ second) ≡ take n first ++ take (n - length first) second
take-joined n first second = same_lists _ _ (search (rules, places)) (λ k d h. grind (arith, places))

-- the first n bytes of some, as the front of the first n of these and more
pub take-front : (n : ℕ) (front rest whole : List ℕ) → whole ≡ front ++ rest → take n front ≡ take (length (take n front)) (take n whole)
take-front n front rest whole is = rw is (same_lists _ _ (search (rules, places)) (λ k d h. grind (arith, places)))

-- what lies after the first n bytes of two slices, where these are at least the first
pub drop-first : (n : ℕ) (first second : List ℕ) → length first ≤ n → drop (n - length first) second ≡ drop n (first ++ second)
drop-first n first second all =
    let whole : length first + (n - length first) ≡ n = omega arith in
    ap (drop (n - length first)) (sym (drop_at first second (length first) refl))
    ∙ drop-drop (n - length first) (length first) (first ++ second) ∙ ap (λ (k : ℕ). drop k (first ++ second)) whole

-- a slice written after another is appended to it
written-behind : (first second : List ℕ) → written (length first) second first ≡ first ++ second
written-behind first second = elim (cases_lt 0 (length second)) [
  | inl some ↦
      written-some (length first) second first some
      ∙ same_lists (overlaid (length first) second first) (first ++ second) (search (rules, places)) (λ k d h. grind (arith, places))
  | inr none ↦
      written-none (length first) second first (omega arith)
      ∙ sym (ap (λ (x : List ℕ). first ++ x) (nil_from_length second (omega arith)) ∙ append-nil first)
]

-- two slices that are written one after the other are written joined
written-joined : (at : ℕ) (first second content : List ℕ)
    → written (at + length first) second (written at first content) ≡ written at (first ++ second) content
written-joined at first second content =
    written-written at (length first) first second content (omega arith)
    ∙ ap (λ (x : List ℕ). written at x content) (written-behind first second)

-- m more bytes of the data, after the first k
pub written-more : (at k m : ℕ) (bytes «data» content : List ℕ) → k + m ≤ length «data» → bytes ≡ take m (drop k «data»)
    → written (at + k) bytes (written at (take k «data») content) ≡ written at (take (k + m) «data») content
written-more at k m bytes «data» content enough is =
    let first : length (take k «data») ≡ k = length-take-le k «data» (omega arith) in
    let both : take k «data» ++ bytes ≡ take (k + m) «data» = rw (is, take-add k m «data») refl in
    ap (λ (n : ℕ). written (at + n) bytes (written at (take k «data») content)) (sym first)
    ∙ written-joined at (take k «data») bytes content
    ∙ ap (λ (x : List ℕ). written at x content) both

-- a write that failed after one to the same range
torn-again : (at k m n : ℕ) (old mid new : List ℕ) → k + m ≤ n → KeepsOutside at n old mid → KeepsOutside (at + k) m mid new
    → KeepsOutside at n old new
torn-again at k m n old mid new below first second =
    let j = min at (length old) in
    let rest : at + n ≡ at + k + m + (n - k - m) = omega arith in
    record {
      before = sym (take-take j (min (at + k) (length mid)) new (omega (arith, first.no_shorter))) ∙ ap (take j) second.before
          ∙ take-take j (at + k) mid (omega arith) ∙ first.before;
      behind = rw rest (sym (drop-drop (n - k - m) (at + k + m) new) ∙ ap (drop (n - k - m)) second.behind
          ∙ drop-drop (n - k - m) (at + k + m) mid) ∙ first.behind;
      no_shorter = omega (arith, first.no_shorter, second.no_shorter);
      no_longer = omega (arith, first.no_longer, second.no_longer);
    }

-- a slice after the first k bytes whose write failed
pub torn-more : (at k m n : ℕ) (bytes content new : List ℕ) → length bytes ≡ k → k + m ≤ n
    → KeepsOutside (at + k) m (written at bytes content) new → KeepsOutside at n content new
torn-more at k m n bytes content new is below kept =
    torn-again at k m n content (written at bytes content) new below (KeepsOutside-written at n bytes content (omega (arith, is, below))) kept

-- of data from a place on, the bytes in front, and what lies after them
pub front-slice : (k m : ℕ) (front behind «data» : List ℕ) → front ++ behind ≡ drop k «data» → m ≤ length front → take m front ≡ take m (drop k «data»)
front-slice k m front behind «data» is within = sym (take-append-le m front behind within) ∙ ap (take m) is

pub behind-slice : (k m : ℕ) (front behind «data» : List ℕ) → front ++ behind ≡ drop k «data» → length front ≡ m → behind ≡ drop (k + m) «data»
behind-slice k m front behind «data» is long = sym (drop_at front behind m long) ∙ ap (drop m) is ∙ drop-drop m k «data»
