-- Which of the numbers from one on have come, as a list.
use Rattle.std.proofs.Common.{◌≡◌, ◌≢◌, ℕ, zero, suc, ◌+◌, ◌-◌, ◌<◌, ◌≤◌, List, [], ◌∷◌, ◌++◌, length, map, take, drop, get_or, set, replicate, Bool, true, false, ◌||◌, eqb, refl, sym, ap, ◌∙◌, inl, inr, arith, add-one}
use Rattle.std.specs.List.{range_with_len, prefix_len}
use Rattle.std.proofs.Math.Bool.{or-false}
use Rattle.std.proofs.lemmas.Bool.{eq-eqb, ne_eqb}
use Rattle.std.proofs.lemmas.Bool.Decides.{eqb_tells}
use Rattle.std.proofs.lemmas.List.{drop-append-le, drop-drop, drop-replicate, replicate-append-replicate}
use Rattle.std.proofs.lemmas.List.Folds.{list_any-append}
use Rattle.std.proofs.lemmas.List.FromFn.{map-range_with_len_more}
use Rattle.iscsi_order.specs.Window.{window, has_come}
use Rattle.iscsi_order.specs.WindowState.{IsWithin}

-- ---- one more has come

-- the others are as they were
pub come_before : (came : List ℕ) (k j : ℕ) → j ≢ k → has_come (came ++ k ∷ []) j ≡ has_come came j
come_before came k j ne =
    let other : k ≢ j = λ e. ne (sym e) in
    list_any-append (λ a. eqb a j) came (k ∷ []) ∙ rw (ne_eqb k j other) (or-false (has_come came j))

or_true : (b : Bool) → (b || true) ≡ true
or_true true = refl
or_true false = refl

-- and it has come
pub come_now : (came : List ℕ) (k : ℕ) → has_come (came ++ k ∷ []) k ≡ true
come_now came k = list_any-append (λ a. eqb a k) came (k ∷ []) ∙ rw (eq-eqb k k refl) (or_true (has_come came k))

-- ---- facts of the numbers from a on

same_range : (f h : ℕ → Bool) (a n : ℕ) → ((j : ℕ) → a ≤ j → h j ≡ f j) → map f (range_with_len a n) ≡ map h (range_with_len a n)
same_range f h a zero same = refl
same_range f h a (suc n) same = rw (same a (omega arith), same_range f h (a + 1) n (λ j le. same j (omega arith))) refl

-- one of them is set
pub set_range : (f h : ℕ → Bool) (a n i k : ℕ) → i < n → k ≡ a + i → h k ≡ true → ((j : ℕ) → j ≢ k → h j ≡ f j)
    → set (map f (range_with_len a n)) i true ≡ map h (range_with_len a n)
set_range f h a zero i k lt at is same = absurd (omega arith)
set_range f h a (suc n) zero k lt at is same =
    let here : a ≡ k = omega arith in
    rw (ap h here ∙ is, same_range f h (a + 1) n (λ j le. same j (λ e. omega arith))) refl
set_range f h a (suc n) (suc i) k lt at is same =
    rw (same a (λ e. omega arith), set_range f h (a + 1) n i k (omega arith) (omega arith) is same) refl

-- the first is dropped, and one that does not hold stands at the end
pub turn_range : (f : ℕ → Bool) (a n : ℕ) → f (a + suc n) ≡ false
    → drop 1 (set (map f (range_with_len a (suc n))) 0 false) ++ take 1 (set (map f (range_with_len a (suc n))) 0 false) ≡ map f
    (range_with_len (a + 1) (suc n))
turn_range f a n e =
    let one_more : map f (range_with_len (a + 1) (suc n)) ≡ map f (range_with_len (a + 1) n) ++ f (a + suc n) ∷ [] =
    ap (λ (m : ℕ). map f (range_with_len (a + 1) m)) (sym (add-one n)) ∙ map-range_with_len_more f (a + 1) n (a + suc n) (omega arith) in
    sym (one_more ∙ ap (λ (b : Bool). map f (range_with_len (a + 1) n) ++ b ∷ []) e)

-- how many hold, up to the first that does not
pub prefix_range : (f : ℕ → Bool) (a n m : ℕ) → m ≤ n → ((j : ℕ) → j < a + m → f j ≡ true) → (m < n → f (a + m) ≡ false)
    → prefix_len (λ is_held. is_held) (map f (range_with_len a n)) ≡ m
prefix_range f a zero m le below at = omega arith
prefix_range f a (suc n) zero le below at =
    let here : a + 0 ≡ a = omega arith in
    rw (sym (ap f here) ∙ at (omega arith)) refl
prefix_range f a (suc n) (suc m) le below at =
    let next : a + suc m ≡ a + 1 + m = omega arith in
    rw (
      below a (omega arith),
      prefix_range f (a + 1) n m (omega arith) (λ j lt. below j (omega arith)) (λ lt. ap f (sym next)
          ∙ at (omega arith)),
    ) (omega arith)

-- ---- none is held outside the window

pub within_fewer : (unfinished : ℕ) (held : List Bool) → 0 < unfinished → IsWithin unfinished held → IsWithin (unfinished - 1) held
within_fewer unfinished held some is =
    let few = is.few in
    let more : window - (unfinished - 1) ≡ window - unfinished + 1 = omega arith in
    record {
      few = omega arith;
      outside = ap (λ (n : ℕ). drop n held) more ∙ sym (drop-drop 1 (window - unfinished) held) ∙ ap (drop 1) is.outside ∙ drop-replicate 1 unfinished false;
    }

-- one inside it comes
set_before : (n i : ℕ) (held : List Bool) → i < n → drop n (set held i true) ≡ drop n held
set_before zero i held lt = absurd (omega arith)
set_before (suc n) i [] lt = refl
set_before (suc n) zero (b ∷ held) lt = refl
set_before (suc n) (suc i) (b ∷ held) lt = set_before n i held (omega arith)

pub within_set : (unfinished i : ℕ) (held : List Bool) → i < window - unfinished → IsWithin unfinished held → IsWithin unfinished (set held i true)
within_set unfinished i held lt is = record { few = is.few; outside = set_before (window - unfinished) i held lt ∙ is.outside }

-- where the first is held, there is room for one more
room_for : (unfinished : ℕ) (rest : List Bool) → IsWithin unfinished (true ∷ rest) → unfinished < window
room_for unfinished rest is =
    let few = is.few in
    elim (eqb_tells unfinished window) [
      | inl full ↦
          let all : window - unfinished ≡ 0 = (let e = full.1 in omega arith) in
          let first : true ≡ get_or (replicate unfinished false) 0 false = ap (λ (l : List Bool). get_or l 0 false)
          (ap (λ (n : ℕ). drop n (true ∷ rest)) (sym all) ∙ is.outside) in
          absurd (let none = first ∙ ap (λ (n : ℕ). get_or (replicate n false) 0 false) full.1 in cc)
      | inr differ ↦ let ne = differ.1 in omega arith
    ]

-- the first is handed over
pub within_more : (unfinished : ℕ) (held : List Bool) → length held ≡ window → get_or held 0 false ≡ true → IsWithin unfinished held
    → IsWithin (unfinished + 1) (drop 1 (set held 0 false) ++ take 1 (set held 0 false))
within_more unfinished [] len first is = absurd (omega arith)
within_more unfinished (false ∷ rest) len first is = absurd cc
within_more unfinished (true ∷ rest) len first is =
    let room = room_for unfinished rest is in
    let one : window - unfinished ≡ suc (window - (unfinished + 1)) = omega arith in
    let outside : drop (window - (unfinished + 1)) rest ≡ replicate unfinished false = ap (λ (n : ℕ). drop n (true ∷ rest)) (sym one) ∙ is.outside in
    record {
      few = omega arith;
      outside = drop-append-le (window - (unfinished + 1)) rest (false ∷ []) (omega arith) ∙ ap (λ (l : List Bool). l ++ false ∷ []) outside
          ∙ replicate-append-replicate unfinished 1 false;
    }
