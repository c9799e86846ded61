-- What one more request takes, and that each is taken once.
use Rattle.std.proofs.Common.{◌≡◌, ◌≢◌, ℕ, zero, suc, ◌+◌, ◌<◌, ◌≤◌, List, [], ◌∷◌, ◌++◌, length, map, get_or, Bool, true, false, cond, eqb, Option, Some, None, refl, sym, ap, ◌∙◌, arith, inl, inr, length-append, ◌-◌, subst}
use Rattle.std.specs.Prelude.{filter, flat_map, is_some, min, All, filter_map}
use Rattle.std.specs.List.{range_with_len}
use Rattle.std.proofs.lemmas.Bool.{ne_eqb, eq-eqb, cases_eq, eqb-true, false_from_ne_true}
use Rattle.std.proofs.lemmas.List.{append-nil}
use Rattle.std.proofs.lemmas.List.Concat.{flat_map-append}
use Rattle.std.proofs.lemmas.List.Elements.{All-head, All-tail, All-nil, All-cons, All-append, filter_passes, All-map, filter-append}
use Rattle.std.proofs.lemmas.List.Folds.{position_or_len_push}
use Rattle.iscsi_requests.specs.Requests.{Request, request_at, is_in, has_number, place_of, moment, taken_at, taken, frame_of, numbered, counted}
use Rattle.iscsi_requests.specs.State.{AreDistinct, frame_numbered}
use Rattle.iscsi_requests.proofs.Left.{filter_cong, map_cong, range_more, range_below, distinct_filter, distinct_range, distinct_append, is_in_append, below_of, range_split, filter_none, filter_every}
use Rattle.iscsi_order.specs.Window as order
use Rattle.iscsi_order.proofs.Front.{front, front_le, front_come, front_missing}

-- ---- the requests that came before are as they were

pub request_before : (came : List Request) (x : Request) (k : ℕ) → k < length came → request_at (came ++ x ∷ []) k ≡ request_at came k
request_before [] x k lt = absurd (omega arith)
request_before (y ∷ came) x zero lt = refl
request_before (y ∷ came) x (suc k) lt = request_before came x k (omega arith)

pub request_new : (came : List Request) (x : Request) → request_at (came ++ x ∷ []) (length came) ≡ x
request_new [] x = refl
request_new (y ∷ came) x = request_new came x

-- a place among those that came is as it was, and what stood after all still does
pub place_kept : (came : List Request) (x : Request) (k : ℕ) → min (length came) (place_of (came ++ x ∷ []) k) ≡ min (length came) (place_of came k)
place_kept came x k = grind (arith, cases_eq, position_or_len_push, eq-eqb, ne_eqb)

pub place_le_moment : (came : List Request) (k : ℕ) → place_of came k ≤ moment came k
place_le_moment came zero = omega arith
place_le_moment came (suc k) = omega arith

pub moment_kept : (came : List Request) (x : Request) (k : ℕ) → min (length came) (moment (came ++ x ∷ []) k) ≡ min (length came) (moment came k)
moment_kept came x zero = place_kept came x zero
moment_kept came x (suc k) = omega (arith, moment_kept came x k, place_kept came x (suc k))

moment_same : (came : List Request) (x : Request) (p k : ℕ) → p < length came → eqb (moment (came ++ x ∷ []) k) p ≡ eqb (moment came k) p
moment_same came x p k lt = grind (arith, moment_kept came x k, cases_eq (moment came k) p)

flat_map_cong : (f g : ℕ → List ℕ) (xs : List ℕ) → All (λ k. f k ≡ g k) xs → flat_map f xs ≡ flat_map g xs
flat_map_cong f g [] same = refl
flat_map_cong f g (x ∷ xs) same = rw (All-head (λ k. f k ≡ g k) x xs same, flat_map_cong f g xs (All-tail (λ k. f k ≡ g k) x xs same)) refl

-- the numbers whose moment is a place
unfoldable pub numbers_at : List Request → ℕ → List ℕ
numbers_at came p = filter (λ k. eqb (moment came k) p) (range_with_len 0 (p + 1))

at_moment : (came : List Request) (p : ℕ) → All (λ k. moment came k ≡ p) (numbers_at came p)
unfolding numbers_at
at_moment came p = λ i d lt. eqb-true _ _ (filter_passes (λ k. eqb (moment came k) p) (range_with_len 0 (p + 1)) i d lt)

-- what was taken is taken at the same places
taken_at_same : (came : List Request) (x : Request) (p : ℕ) → p < length came → taken_at (came ++ x ∷ []) p ≡ taken_at came p
unfolding taken_at numbers_at
taken_at_same came x p lt =
    let range = range_with_len 0 (p + 1) in
    let those : List ℕ = filter (λ k. eqb (moment came k) p) range in
    let numbers : filter (λ k. eqb (moment (came ++ x ∷ []) k) p) range ≡ those = grind (arith, filter_cong, moment_same) in
    let at : All (λ k. eqb (moment came k) p ≡ true) those = filter_passes (λ k. eqb (moment came k) p) range in
    let places : map (place_of (came ++ x ∷ [])) those ≡ map (place_of came) those =
    map_cong _ _ those (λ i d below. (let kept = place_kept came x (get_or those i d) in let e = eqb-true _ _ (at i d below)
    in let le = place_le_moment came (get_or those i d) in omega arith)) in
    rw (request_before came x p lt, numbers, places) refl

-- one more request: those taken before it, and after them those that it takes
pub taken_more : (came : List Request) (x : Request) → taken (came ++ x ∷ []) ≡ taken came ++ taken_at (came ++ x ∷ []) (length came)
unfolding taken
taken_more came x =
    let new = came ++ x ∷ [] in
    let n = length came in
    rw (length-append came (x ∷ []), range_more 0 n n (omega arith), flat_map-append (taken_at new) (range_with_len 0 n) (n ∷ []), append-nil (taken_at new n))
    (ap (λ (l : List ℕ). l ++ taken_at new n)
    (flat_map_cong (taken_at new) (taken_at came) (range_with_len 0 n) (λ i d below. taken_at_same came x _ (range_below n i d below))))

-- ---- the request at the place of a number has it

pub place_has : (came : List Request) (k : ℕ) → place_of came k < length came → has_number k (request_at came (place_of came k)).number ≡ true
place_has [] k lt = absurd (omega arith)
place_has (f ∷ came) k lt = grind (arith, place_has came k)

same_number : (n : Option ℕ) (j k : ℕ) → has_number j n ≡ true → has_number k n ≡ true → j ≡ k
same_number n j k a b = grind arith

pub has_some : (n : Option ℕ) (k : ℕ) → has_number k n ≡ true → is_some n ≡ true
has_some n k e = grind arith

place_injective : (came : List Request) (j k : ℕ) → place_of came k < length came → place_of came j ≡ place_of came k → j ≡ k
place_injective came j k lt e = same_number (request_at came (place_of came k)).number j k
    (ap (λ (p : ℕ). has_number j (request_at came p).number) (sym e) ∙ place_has came j (omega arith)) (place_has came k lt)

apart_places : (came : List Request) (k : ℕ) (ks : List ℕ) → place_of came k < length came → is_in k ks ≡ false
    → is_in (place_of came k) (map (place_of came) ks) ≡ false
apart_places came k [] lt none = refl
apart_places came k (j ∷ ks) lt none = elim (cases_eq j k) [
  | inl same ↦ absurd (let e = rw (eq-eqb j k same) at none in cc)
  | inr differs ↦
      let rest = rw (ne_eqb j k differs) at none in
      let ne : place_of came j ≢ place_of came k = λ e. differs (place_injective came j k lt e) in
      rw (ne_eqb _ _ ne) (apart_places came k ks lt rest)
]

distinct_places : (came : List Request) (ks : List ℕ) → All (λ k. place_of came k < length came) ks → AreDistinct ks → AreDistinct (map (place_of came) ks)
distinct_places came [] within distinct = tt
distinct_places came (k ∷ ks) within distinct = (
  apart_places came k ks (All-head (λ k. place_of came k < length came) k ks within) distinct.0,
  distinct_places came ks (All-tail (λ k. place_of came k < length came) k ks within) distinct.1,
)

-- ---- the place at which a request is taken, read from it

key_by : Option ℕ → List Request → ℕ → ℕ
key_by None came name = name
key_by (Some k) came name = moment came k

key : List Request → ℕ → ℕ
key came name = key_by (request_at came name).number came name

key_of_number : (n : Option ℕ) (came : List Request) (k name : ℕ) → has_number k n ≡ true → key_by n came name ≡ moment came k
unfolding key_by
key_of_number None came k name e = absurd cc
key_of_number (Some n) came k name e = ap (moment came) (eqb-true n k e)

places_within : (came : List Request) (p : ℕ) → p < length came → All (λ k. place_of came k < length came) (numbers_at came p)
places_within came p lt = grind (arith, at_moment, place_le_moment)

keys_of_numbers : (came : List Request) (p : ℕ) → p < length came → All (λ a. key came a ≡ p) (map (place_of came) (numbers_at came p))
unfolding key
keys_of_numbers came p lt = All-map (λ a. key came a ≡ p) (place_of came) (numbers_at came p) (λ i d below.
    let k = get_or (numbers_at came p) i d in
    key_of_number (request_at came (place_of came k)).number came k (place_of came k) (place_has came k (places_within came p lt i d below))
    ∙ at_moment came p i d below)

key_of_immediate : (n : Option ℕ) (came : List Request) (p : ℕ) → is_some n ≡ false → key_by n came p ≡ p
unfolding key_by
key_of_immediate None came p e = refl
key_of_immediate (Some k) came p e = absurd cc

front_keys : (b : Bool) (came : List Request) (p : ℕ) → is_some (request_at came p).number ≡ b → All (λ a. key came a ≡ p) (cond b [] (p ∷ []))
unfolding key
front_keys true came p is = All-nil (λ a. key came a ≡ p)
front_keys false came p is = All-cons (λ a. key came a ≡ p) p [] (key_of_immediate (request_at came p).number came p is) (All-nil (λ a. key came a ≡ p))

keys_at : (came : List Request) (p : ℕ) → p < length came → All (λ a. key came a ≡ p) (taken_at came p)
unfolding taken_at numbers_at
keys_at came p lt = All-append (λ a. key came a ≡ p) (cond (is_some (request_at came p).number) [] (p ∷ [])) (map (place_of came) (numbers_at came p))
    (front_keys _ came p refl) (keys_of_numbers came p lt)

apart_immediate : (came : List Request) (p : ℕ) (ks : List ℕ) → is_some (request_at came p).number ≡ false → All (λ k. place_of came k < length came) ks
    → is_in p (map (place_of came) ks) ≡ false
apart_immediate came p [] none within = refl
apart_immediate came p (k ∷ ks) none within =
    let has = has_some _ k (place_has came k (All-head (λ k. place_of came k < length came) k ks within)) in
    let ne : place_of came k ≢ p = λ e. let h = sym has ∙ ap (λ (n : ℕ). is_some (request_at came n).number) e ∙ none in cc in
    rw (ne_eqb (place_of came k) p ne) (apart_immediate came p ks none (All-tail (λ k. place_of came k < length came) k ks within))

distinct_with : (b : Bool) (came : List Request) (p : ℕ) (ks : List ℕ) → is_some (request_at came p).number ≡ b
    → All (λ k. place_of came k < length came) ks → AreDistinct ks → AreDistinct (cond b [] (p ∷ []) ++ map (place_of came) ks)
distinct_with true came p ks is within distinct = distinct_places came ks within distinct
distinct_with false came p ks is within distinct = (apart_immediate came p ks is within, distinct_places came ks within distinct)

distinct_at : (came : List Request) (p : ℕ) → p < length came → AreDistinct (taken_at came p)
unfolding taken_at numbers_at
distinct_at came p lt = distinct_with _ came p (numbers_at came p) refl (places_within came p lt) (distinct_filter _ _ (distinct_range 0 (p + 1)))

other_key : (came : List Request) (k p : ℕ) (names : List ℕ) → All (λ a. key came a ≡ p) names → key came k ≢ p → is_in k names ≡ false
other_key came k p [] at ne = refl
other_key came k p (a ∷ names) at ne =
    grind (arith, other_key came k p names (All-tail (λ a. key came a ≡ p) a names at) ne, All-head (λ a. key came a ≡ p) a names at, ne_eqb)

-- none of these places takes it
not_taken : (came : List Request) (k : ℕ) (ps : List ℕ) → All (λ p. p < length came) ps → is_in (key came k) ps ≡ false
    → is_in k (flat_map (taken_at came) ps) ≡ false
not_taken came k [] within none = refl
not_taken came k (p ∷ ps) within none = elim (cases_eq p (key came k)) [
  | inl same ↦ absurd (let e = rw (eq-eqb p (key came k) same) at none in cc)
  | inr differs ↦
      let rest = rw (ne_eqb p (key came k) differs) at none in
      let here = other_key came k p (taken_at came p) (keys_at came p (All-head (λ p. p < length came) p ps within)) (λ e. differs (sym e)) in
      is_in_append k (taken_at came p) (flat_map (taken_at came) ps) ∙ rw here (not_taken came k ps (All-tail (λ p. p < length came) p ps within) rest)
]

distinct_over : (came : List Request) (ps : List ℕ) → All (λ p. p < length came) ps → AreDistinct ps → AreDistinct (flat_map (taken_at came) ps)
distinct_over came [] within distinct = tt
distinct_over came (p ∷ ps) within distinct =
    let lt : p < length came = All-head (λ p. p < length came) p ps within in
    let others = All-tail (λ p. p < length came) p ps within in
    distinct_append (taken_at came p) (flat_map (taken_at came) ps) (distinct_at came p lt) (distinct_over came ps others distinct.1)
    (λ i d below. not_taken came _ ps others (ap (λ (n : ℕ). is_in n ps) (keys_at came p lt i d below) ∙ distinct.0))

-- each request is taken once
pub distinct_taken : (came : List Request) → AreDistinct (taken came)
unfolding taken
distinct_taken came = distinct_over came (range_with_len 0 (length came)) (range_below (length came)) (distinct_range 0 (length came))

-- a request with a number before which one is missing is not taken
pub beyond_not_taken : (came : List Request) (n : ℕ) → place_of came n < length came → length came ≤ moment came n
    → is_in (place_of came n) (taken came) ≡ false
unfolding taken key
beyond_not_taken came n lt le =
    let p = place_of came n in
    let is : key came p ≡ moment came n = key_of_number (request_at came p).number came n p (place_has came n lt) in
    not_taken came p (range_with_len 0 (length came)) (range_below (length came))
    (false_from_ne_true (is_in (key came p) (range_with_len 0 (length came)))
    (λ h. let less = below_of (length came) (key came p) _ (range_below (length came)) h
    in absurd (omega arith)))

-- what is taken came
below_with : (b : Bool) (n p : ℕ) → p < n → All (λ a. a < n) (cond b [] (p ∷ []))
below_with b n p lt = grind arith

below_at : (came : List Request) (p : ℕ) → p < length came → All (λ a. a < length came) (taken_at came p)
unfolding taken_at numbers_at
below_at came p lt = All-append (λ a. a < length came) (cond (is_some (request_at came p).number) [] (p ∷ [])) (map (place_of came) (numbers_at came p))
    (below_with (is_some (request_at came p).number) (length came) p lt)
    (All-map (λ a. a < length came) (place_of came) (numbers_at came p) (places_within came p lt))

below_over : (came : List Request) (ps : List ℕ) → All (λ p. p < length came) ps → All (λ a. a < length came) (flat_map (taken_at came) ps)
below_over came [] within = All-nil (λ a. a < length came)
below_over came (p ∷ ps) within = All-append (λ a. a < length came) (taken_at came p) (flat_map (taken_at came) ps)
    (below_at came p (All-head (λ p. p < length came) p ps within)) (below_over came ps (All-tail (λ p. p < length came) p ps within))

pub taken_below : (came : List Request) → All (λ a. a < length came) (taken came)
unfolding taken
taken_below came = below_over came (range_with_len 0 (length came)) (range_below (length came))

-- ---- which it takes: itself, where it is for immediate delivery, and else those with the numbers that it closes the gap before

-- ---- a number has come where its place is among those that came

come_place : (came : List Request)
    (k : ℕ) → (order.has_come (numbered came) k ≡ true → place_of came k < length came) × (order.has_come (numbered came) k ≡ false
    → place_of came k ≡ length came)
come_place [] k = (λ h. absurd cc, λ h. refl)
come_place (r ∷ came) k = grind (arith, come_place came k)

pub place_come : (came : List Request) (k : ℕ) → order.has_come (numbered came) k ≡ true → place_of came k < length came
place_come came k h = (come_place came k).0 h

pub place_missing : (came : List Request) (k : ℕ) → order.has_come (numbered came) k ≡ false → place_of came k ≡ length came
place_missing came k h = (come_place came k).1 h

-- ---- the moment of a number

moment_come : (came : List Request) (k n : ℕ) → ((j : ℕ) → j ≤ k → order.has_come (numbered came) j ≡ true) → length came ≤ n → moment came k < n
moment_come came zero n come le = let lt = place_come came zero (come zero (omega arith)) in omega arith
moment_come came (suc k) n come le = grind (arith, moment_come came k n (λ j below. come j (omega arith)) le, place_come)

-- it is the greatest of all places up to it
pub moment_above : (came : List Request) (j k : ℕ) → j ≤ k → place_of came j ≤ moment came k
moment_above came j zero le = grind arith
moment_above came j (suc k) le = elim (cases_eq j (suc k)) [
  | inl same ↦ subst (λ (n : ℕ). place_of came n ≤ moment came (suc k)) (sym same) (place_le_moment came (suc k))
  | inr differs ↦ let before = moment_above came j k (omega arith) in omega arith
]

-- ---- what one more request takes

pub numbered_length : (came : List Request) → length (numbered came) ≤ length came
numbered_length [] = omega arith
numbered_length (r ∷ came) = grind (arith, numbered_length came)

-- the numbers that are taken before it, and with it
abbrev pub first_of : List Request → ℕ
first_of came = front (numbered came)

module _ (came : List Request) (x : Request) (grows : first_of came ≤ first_of (came ++ x ∷ [])) where
  before_it : (k : ℕ) → k < first_of came → moment (came ++ x ∷ []) k < length came
  before_it k lt = grind (arith, moment_kept came x k, moment_come, front_come)

  with_it : (k : ℕ) → first_of came ≤ k → k < first_of (came ++ x ∷ []) → moment (came ++ x ∷ []) k ≡ length came
  with_it k le lt =
      let long : length (came ++ x ∷ []) ≡ length came + 1 = length-append came (x ∷ []) in
      let few = moment_come (came ++ x ∷ []) k (length came + 1) (λ j at. front_come (numbered (came ++ x ∷ [])) j (omega arith)) (omega arith) in
      let missing = place_missing came (first_of came) (front_missing (numbered came)) in
      let kept = place_kept came x (first_of came) in
      let above = moment_above (came ++ x ∷ []) (first_of came) k le in
      omega arith

  behind_it : (k : ℕ) → first_of (came ++ x ∷ []) ≤ k → moment (came ++ x ∷ []) k ≢ length came
  behind_it k le = λ e.
      let long : length (came ++ x ∷ []) ≡ length came + 1 = length-append came (x ∷ []) in
      let missing = place_missing (came ++ x ∷ []) (first_of (came ++ x ∷ [])) (front_missing (numbered (came ++ x ∷ []))) in
      let above = moment_above (came ++ x ∷ []) (first_of (came ++ x ∷ [])) k le in
      omega arith

  pub numbers_now : filter (λ k. eqb (moment (came ++ x ∷ []) k) (length came)) (range_with_len 0 (length came + 1)) ≡ range_with_len (first_of came)
      (first_of (came ++ x ∷ []) - first_of came)
  numbers_now =
      let p = length came in
      let f = first_of came in
      let g = first_of (came ++ x ∷ []) in
      let q : ℕ → Bool = λ k. eqb (moment (came ++ x ∷ []) k) p in
      let few : g ≤ p + 1 = omega (arith, front_le (numbered (came ++ x ∷ [])), numbered_length (came ++ x ∷ []), length-append came (x ∷ [])) in
      let split : range_with_len 0 (p + 1) ≡ range_with_len 0 f ++ range_with_len (0 + f) (p + 1 - f) = range_split 0 f (p + 1 - f) (p + 1) (omega arith) in
      let split_again : range_with_len (0 + f) (p + 1 - f) ≡ range_with_len (0 + f) (g - f) ++ range_with_len (0 + f + (g - f)) (p + 1 - g) = range_split
      (0 + f) (g - f) (p + 1 - g) (p + 1 - f) (omega arith) in
      let first : filter q (range_with_len 0 f) ≡ [] = grind (arith, filter_none, ne_eqb, before_it) in
      let middle : filter q (range_with_len (0 + f) (g - f)) ≡ range_with_len (0 + f) (g - f) = grind (arith, filter_every, eq-eqb, with_it) in
      let last : filter q (range_with_len (0 + f + (g - f)) (p + 1 - g)) ≡ [] = grind (arith, filter_none, ne_eqb, behind_it) in
      grind (arith, filter-append, append-nil)

  pub taken_now : taken_at (came ++ x ∷ []) (length came) ≡ cond (is_some x.number) [] (length came ∷ []) ++ map (place_of (came ++ x ∷ []))
      (range_with_len (first_of came) (first_of (came ++ x ∷ []) - first_of came))
  unfolding taken_at
  taken_now = rw (request_new came x, numbers_now) refl

-- ---- the requests with numbers

-- the request with a number that has come stands at its place
pub frame_come : (came : List Request) (k : ℕ) → place_of came k < length came → frame_numbered came k ≡ Some (frame_of came (place_of came k))
frame_come [] k lt = absurd (omega arith)
frame_come (r ∷ came) k lt = grind (arith, frame_come came k)

pub frame_missing : (came : List Request) (k : ℕ) → order.has_come (numbered came) k ≡ false → frame_numbered came k ≡ None
frame_missing [] k h = refl
frame_missing (r ∷ came) k h = grind (arith, frame_missing came k)

pub frame_marked : (came : List Request) (k : ℕ) → is_some (frame_numbered came k) ≡ order.has_come (numbered came) k
frame_marked [] k = refl
frame_marked (r ∷ came) k = grind (arith, frame_marked came k)

numbered_at : (came : List Request) (k : ℕ) → place_of came k < length came → is_some (request_at came (place_of came k)).number ≡ true
numbered_at came k lt = has_some (request_at came (place_of came k)).number k (place_has came k lt)

-- each of these has a number
pub counted_places : (came : List Request) (a n : ℕ) → ((k : ℕ) → a ≤ k → k < a + n → order.has_come (numbered came) k ≡ true)
    → counted came (map (place_of came) (range_with_len a n)) ≡ n
counted_places came a zero come = refl
counted_places came a (suc n) come = grind (arith, counted_places came (a + 1) n (λ k le lt. come k (omega arith) (omega arith)), numbered_at, place_come)

-- their frames, in order
pub frames_come : (came : List Request) (a n : ℕ) → ((k : ℕ) → a ≤ k → k < a + n → order.has_come (numbered came) k ≡ true)
    → filter_map (λ o. o) (map (frame_numbered came) (range_with_len a n)) ≡ map (frame_of came) (map (place_of came) (range_with_len a n))
frames_come came a zero come = refl
frames_come came a (suc n) come = grind (arith, frames_come came (a + 1) n (λ k le lt. come k (omega arith) (omega arith)), frame_come, place_come)

-- ---- one more request with a number

-- the others are as they were
pub frame_other : (came : List Request) (x : Request) (k : ℕ) → has_number k x.number ≡ false → frame_numbered (came ++ x ∷ []) k ≡ frame_numbered came k
frame_other [] x k e = rw e refl
frame_other (r ∷ came) x k e = grind (arith, frame_other came x k e)

pub frame_now : (came : List Request) (x : Request) (k : ℕ) → has_number k x.number ≡ true → frame_numbered came k ≡ None
    → frame_numbered (came ++ x ∷ []) k ≡ Some x.frame
frame_now [] x k e none = rw e refl
frame_now (r ∷ came) x k e none = grind (arith, frame_now came x k e)
