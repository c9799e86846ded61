-- What some names that are gone leave of a list of names, and lists in which no name stands twice.
use Rattle.std.proofs.Common.{◌≡◌, ◌≢◌, ℕ, zero, suc, ◌+◌, ◌<◌, ◌≤◌, List, [], ◌∷◌, ◌++◌, length, map, get_or, Bool, true, false, not, ◌||◌, ◌&&◌, eqb, refl, sym, ap, ◌∙◌, inl, inr, arith, subst, Option, Some, None}
use Rattle.std.specs.Prelude.{filter, All, is_some}
use Rattle.std.specs.List.{range_with_len, prefix_len}
use Rattle.std.proofs.lemmas.Bool.{cases_eq, eq-eqb, ne_eqb, not-true, or_parts, or_right, false_from_ne_true}
use Rattle.std.proofs.lemmas.List.FromFn.{get_or-range_with_len, length-range_with_len}
use Rattle.std.proofs.lemmas.List.Elements.{filter-append, All-tail, All-head, filter_passes}
use Rattle.std.proofs.lemmas.List.Folds.{list_any-append, list_any_at}
use Rattle.iscsi_requests.specs.Requests.{is_in, left}
use Rattle.iscsi_requests.specs.State.{AreDistinct}

-- ---- filters

pub filter_cong : {A : Type 0} (p q : A → Bool) (xs : List A) → All (λ x. p x ≡ q x) xs → filter p xs ≡ filter q xs
filter_cong p q [] same = refl
filter_cong p q (x ∷ xs) same = rw (All-head (λ x. p x ≡ q x) x xs same, filter_cong p q xs (All-tail (λ x. p x ≡ q x) x xs same)) refl

pub filter_filter : {A : Type 0} (p q : A → Bool) (xs : List A) → filter p (filter q xs) ≡ filter (λ x. q x && p x) xs
filter_filter p q [] = refl
filter_filter p q (x ∷ xs) = grind (arith, filter_filter p q xs)

pub map_cong : {A B : Type 0} (f g : A → B) (xs : List A) → All (λ x. f x ≡ g x) xs → map f xs ≡ map g xs
map_cong f g [] same = refl
map_cong f g (x ∷ xs) same = rw (All-head (λ x. f x ≡ g x) x xs same, map_cong f g xs (All-tail (λ x. f x ≡ g x) x xs same)) refl

-- ---- what is left

pub left_more : (gone more names : List ℕ) → left (gone ++ more) names ≡ left more (left gone names)
unfolding left
left_more gone more names = grind (arith, filter_filter, filter_cong, list_any-append)

pub both_true : (a b : Bool) → (a && not b) ≡ true → (a ≡ true) × (b ≡ false)
both_true a b e = grind arith

pub left_swap : (a b names : List ℕ) → left a (left b names) ≡ left b (left a names)
unfolding left
left_swap a b names = grind (arith, filter_filter, filter_cong)

pub left_append : (gone a b : List ℕ) → left gone (a ++ b) ≡ left gone a ++ left gone b
unfolding left
left_append gone a b = filter-append (λ k. not (is_in k gone)) a b

pub left_all : (gone names : List ℕ) → All (λ k. is_in k gone ≡ false) names → left gone names ≡ names
unfolding left
left_all gone [] none = refl
left_all gone (k ∷ ks) none =
    rw (All-head (λ k. is_in k gone ≡ false) k ks none, left_all gone ks (All-tail (λ k. is_in k gone ≡ false) k ks none)) refl

-- the first is gone
pub left_one : (k : ℕ) (ks : List ℕ) → is_in k ks ≡ false → left (k ∷ []) ks ≡ ks
unfolding left
left_one k [] none = refl
left_one k (a ∷ ks) none = elim (cases_eq a k) [
  | inl same ↦ absurd (let e = rw (eq-eqb a k same) at none in cc)
  | inr differs ↦
      let back : k ≢ a = λ e. differs (sym e) in
      let rest = rw (ne_eqb a k differs) at none in
      rw (ne_eqb k a back) (ap (λ (l : List ℕ). a ∷ l) (left_one k ks rest))
]

pub left_first : (k : ℕ) (ks : List ℕ) → AreDistinct (k ∷ ks) → left (k ∷ []) (k ∷ ks) ≡ ks
unfolding left
left_first k ks distinct = rw (eq-eqb k k refl) (left_one k ks distinct.0)

pub left_passes : (gone names : List ℕ) → All (λ k. is_in k gone ≡ false) (left gone names)
unfolding left
left_passes gone names = λ i d lt. not-true _ (filter_passes (λ k. not (is_in k gone)) names i d lt)

-- ---- a name that stands in a list

pub in_at : (names : List ℕ) (i d : ℕ) → i < length names → is_in (get_or names i d) names ≡ true
in_at names i d lt = list_any_at (λ a. eqb a (get_or names i d)) names i d lt (eq-eqb _ _ refl)

pub is_in_append : (k : ℕ) (a b : List ℕ) → is_in k (a ++ b) ≡ (is_in k a || is_in k b)
is_in_append k a b = list_any-append (λ n. eqb n k) a b

pub in_front : (k : ℕ) (a b : List ℕ) → is_in k a ≡ true → is_in k (a ++ b) ≡ true
in_front k a b e = is_in_append k a b ∙ rw e refl

pub in_back : (k : ℕ) (a b : List ℕ) → is_in k b ≡ true → is_in k (a ++ b) ≡ true
in_back k a b e = is_in_append k a b ∙ or_right (is_in k a) (is_in k b) e

-- what holds of all holds of one of them
pub all_in : (P : ℕ → Type 0) (k : ℕ) (names : List ℕ) → All P names → is_in k names ≡ true → P k
all_in P k [] all e = absurd cc
all_in P k (a ∷ names) all e = elim (cases_eq a k) [
  | inl same ↦ subst P same (All-head P a names all)
  | inr differs ↦ let rest = rw (ne_eqb a k differs) at e in all_in P k names (All-tail P a names all) rest
]

-- what is not in all is not in some of them
pub not_in : (k : ℕ) (some all : List ℕ) → All (λ a. is_in a all ≡ true) some → is_in k all ≡ false → is_in k some ≡ false
not_in k some all known none =
    false_from_ne_true (is_in k some) (λ e. let h = sym (all_in (λ a. is_in a all ≡ true) k some known e) ∙ none in cc)

pub below_of : (n k : ℕ) (names : List ℕ) → All (λ a. a < n) names → is_in k names ≡ true → k < n
below_of n k names below e = all_in (λ a. a < n) k names below e

pub in_filter : (k : ℕ) (q : ℕ → Bool) (names : List ℕ) → is_in k (filter q names) ≡ true → is_in k names ≡ true
in_filter k q [] e = absurd cc
in_filter k q (a ∷ names) e = grind (arith, in_filter k q names)

pub in_left : (k : ℕ) (gone names : List ℕ) → is_in k (left gone names) ≡ true → is_in k names ≡ true
unfolding left
in_left k gone names e = in_filter k (λ a. not (is_in a gone)) names e

pub not_by : (k : ℕ) (some all : List ℕ) → (is_in k some ≡ true → is_in k all ≡ true) → is_in k all ≡ false → is_in k some ≡ false
not_by k some all sub none = false_from_ne_true (is_in k some) (λ e. let h = sym (sub e) ∙ none in cc)

-- ---- distinct names

pub distinct_filter : (q : ℕ → Bool) (names : List ℕ) → AreDistinct names → AreDistinct (filter q names)
distinct_filter q [] distinct = tt
distinct_filter q (k ∷ ks) distinct = grind (arith, distinct_filter q ks distinct.1, not_by, in_filter)

pub distinct_left : (gone names : List ℕ) → AreDistinct names → AreDistinct (left gone names)
unfolding left
distinct_left gone names distinct = distinct_filter (λ k. not (is_in k gone)) names distinct

below_range : (k a n : ℕ) → k < a → is_in k (range_with_len a n) ≡ false
below_range k a zero lt = refl
below_range k a (suc n) lt = let ne : a ≢ k = (λ e. omega arith) in rw (ne_eqb a k ne) (below_range k (a + 1) n (omega arith))

pub distinct_range : (a n : ℕ) → AreDistinct (range_with_len a n)
distinct_range a zero = tt
distinct_range a (suc n) = (below_range a (a + 1) n (omega arith), distinct_range (a + 1) n)

pub distinct_append : (a b : List ℕ) → AreDistinct a → AreDistinct b → All (λ k. is_in k b ≡ false) a → AreDistinct (a ++ b)
distinct_append [] b da db apart = db
distinct_append (k ∷ a) b da db apart = (
  is_in_append k a b ∙ rw (da.0, All-head (λ k. is_in k b ≡ false) k a apart) refl,
  distinct_append a b da.1 db
      (All-tail (λ k. is_in k b ≡ false) k a apart),
)

pub distinct_front : (a b : List ℕ) → AreDistinct (a ++ b) → AreDistinct a
distinct_front [] b distinct = tt
distinct_front (k ∷ a) b distinct = ((or_parts _ _ (sym (is_in_append k a b) ∙ distinct.0)).0, distinct_front a b distinct.1)

-- what stands in the front does not stand at the back
pub distinct_apart : (k : ℕ) (a b : List ℕ) → AreDistinct (a ++ b) → is_in k a ≡ true → is_in k b ≡ false
distinct_apart k [] b distinct there = absurd cc
distinct_apart k (n ∷ a) b distinct there = elim (cases_eq n k) [
  | inl same ↦ (or_parts _ _ (sym (is_in_append k a b) ∙ ap (λ (m : ℕ). is_in m (a ++ b)) (sym same) ∙ distinct.0)).1
  | inr differs ↦ let rest = rw (ne_eqb n k differs) at there in distinct_apart k a b distinct.1 rest
]

-- what stands at the back does not stand in the front
pub apart_behind : (k : ℕ) (a b : List ℕ) → AreDistinct (a ++ b) → is_in k b ≡ true → is_in k a ≡ false
apart_behind k a b distinct there = false_from_ne_true (is_in k a) (λ e. let h = sym there ∙ distinct_apart k a b distinct e in cc)

-- ---- ranges

pub range_below : (n : ℕ) → All (λ k. k < n) (range_with_len 0 n)
range_below n = λ i d lt. let e = get_or-range_with_len 0 n i d (omega (arith, length-range_with_len 0 n)) in omega (arith, length-range_with_len 0 n)

pub range_more : (a n j : ℕ) → a + n ≡ j → range_with_len a (n + 1) ≡ range_with_len a n ++ j ∷ []
range_more a zero j at = let e : a ≡ j = omega arith in ap (λ (k : ℕ). k ∷ []) e
range_more a (suc n) j at = grind (arith, range_more (a + 1) n j (omega arith))

pub range_split : (a n m j : ℕ) → n + m ≡ j → range_with_len a j ≡ range_with_len a n ++ range_with_len (a + n) m
range_split a zero m j at = grind arith
range_split a (suc n) m zero at = absurd (omega arith)
range_split a (suc n) m (suc j) at = grind (arith, range_split (a + 1) n m j (omega arith))

-- those of a range for which this holds are a part of it
pub filter_none : (q : ℕ → Bool) (a n : ℕ) → ((k : ℕ) → a ≤ k → k < a + n → q k ≡ false) → filter q (range_with_len a n) ≡ []
filter_none q a zero none = refl
filter_none q a (suc n) none = rw (none a (omega arith) (omega arith)) (filter_none q (a + 1) n (λ k le lt. none k (omega arith) (omega arith)))

pub filter_every : (q : ℕ → Bool) (a n : ℕ) → ((k : ℕ) → a ≤ k → k < a + n → q k ≡ true) → filter q (range_with_len a n) ≡ range_with_len a n
filter_every q a zero all = refl
filter_every q a (suc n) all = grind (arith, filter_every q (a + 1) n (λ k le lt. all k (omega arith) (omega arith)))

-- ---- distinct values of names

in_map_filter : {A : Type 0} (f : A → ℕ) (q : A → Bool) (n : ℕ) (names : List A) → is_in n (map f names) ≡ false → is_in n (map f (filter q names)) ≡ false
in_map_filter f q n [] none = refl
in_map_filter f q n (a ∷ names) none = grind (arith, in_map_filter f q n names)

pub distinct_map_filter : {A : Type 0} (f : A → ℕ) (q : A → Bool) (names : List A) → AreDistinct (map f names) → AreDistinct (map f (filter q names))
distinct_map_filter f q [] distinct = tt
distinct_map_filter f q (a ∷ names) distinct = grind (arith, distinct_map_filter f q names distinct.1, in_map_filter)

-- one more that does not stand there
pub distinct_push : (names : List ℕ) (n : ℕ) → AreDistinct names → is_in n names ≡ false → AreDistinct (names ++ n ∷ [])
distinct_push names n distinct missing = grind (arith, distinct_append, in_at, ne_eqb)

-- ---- what stands there still stands there

pub in_filter_back : (k : ℕ) (q : ℕ → Bool) (names : List ℕ) → is_in k names ≡ true → q k ≡ true → is_in k (filter q names) ≡ true
in_filter_back k q [] e pass = absurd cc
in_filter_back k q (a ∷ names) e pass = grind (arith, in_filter_back k q names)

pub in_left_back : (k : ℕ) (gone names : List ℕ) → is_in k names ≡ true → is_in k gone ≡ false → is_in k (left gone names) ≡ true
unfolding left
in_left_back k gone names e none = in_filter_back k (λ a. not (is_in a gone)) names e (ap not none)

pub in_range : (k a n : ℕ) → a ≤ k → k < a + n → is_in k (range_with_len a n) ≡ true
in_range k a zero le lt = absurd (omega arith)
in_range k a (suc n) le lt = elim (cases_eq a k) [
  | inl same ↦ rw (eq-eqb a k same) refl
  | inr apart ↦ rw (ne_eqb a k apart) (in_range k (a + 1) n (omega arith) (omega arith))
]

-- what stands there passes
pub passes_in : (k : ℕ) (q : ℕ → Bool) (names : List ℕ) → is_in k (filter q names) ≡ true → q k ≡ true
passes_in k q [] e = absurd cc
passes_in k q (a ∷ names) e = grind (arith, passes_in k q names)

pub not_gone : (k : ℕ) (gone names : List ℕ) → is_in k (left gone names) ≡ true → is_in k gone ≡ false
unfolding left
not_gone k gone names e = not-true _ (passes_in k (λ a. not (is_in a gone)) names e)

-- how many of a front are there
pub prefix_marks : {A : Type 0} (l : List (Option A)) → prefix_len (λ o. is_some o) l ≡ prefix_len (λ b. b) (map is_some l)
prefix_marks [] = refl
prefix_marks (None ∷ l) = refl
prefix_marks (Some a ∷ l) = rw (prefix_marks l) refl
