-- The keys of pairs in a digital search tree: where walks end, and what stays where one more node is linked.
use Rattle.std.proofs.Common.{◌≡◌, ℕ, zero, suc, ◌+◌, ◌*◌, ◌<◌, ◌≤◌, Bool, true, false, List, [], ◌∷◌, ◌++◌, length, take, Option, Some, None, refl, sym, ap, subst, ◌∙◌, inl, inr, add-one, arith}
use Rattle.std.specs.Prelude.{slice_get, bytes_eq, option_map}
use Rattle.std.proofs.Math.Seq.{take-append_seam}
use Rattle.std.proofs.lemmas.Bool.{false≢true, cases_lt}
use Rattle.std.proofs.lemmas.List.{get_or-append-add, length-append, take_all}
use Rattle.std.proofs.lemmas.Option.{same_Some, slice_get_within, slice_get_read, slice_get_past, get_or_from_slice_get}
use Rattle.std.proofs.lemmas.Slice.Eq.{bytes_eq-Decides}
use Rattle.iscsi_text.specs.Pairs.{Pair, value_of}
use Rattle.iscsi_login.specs.KeyTree.{IsKeyed, Leads, EndsAt, TellsPlaces, IsTreeOf, KeepsChildren, slot_of}

-- ---- pairs, and their keys

by_test : {P : Type 0} (b : Bool) → (b ≡ true → P) → (b ≡ false → P) → P
by_test true so other = so refl
by_test false so other = other refl

same : (key other : List ℕ) → bytes_eq key other ≡ true → key ≡ other
same key other = (bytes_eq-Decides key other).0

pub itself : (key : List ℕ) → bytes_eq key key ≡ true
itself key = (bytes_eq-Decides key key).1 refl

front_at : (xs ys : List Pair) (i : ℕ) (x : Pair) → slice_get xs i ≡ Some x → slice_get (xs ++ ys) i ≡ Some x
front_at [] ys i x at = absurd cc
front_at (y ∷ xs) ys zero x at = at
front_at (y ∷ xs) ys (suc i) x at = front_at xs ys i x at

at_front : (xs ys : List Pair) (i : ℕ) (x : Pair) → i < length xs → slice_get (xs ++ ys) i ≡ Some x → slice_get xs i ≡ Some x
at_front [] ys i x within at = absurd (omega (arith, within))
at_front (y ∷ xs) ys zero x within at = at
at_front (y ∷ xs) ys (suc i) x within at = at_front xs ys i x (omega (arith, within)) at

pub behind_at : (xs ys : List Pair) (i : ℕ) (x : Pair) → slice_get ys i ≡ Some x → slice_get (xs ++ ys) (length xs + i) ≡ Some x
behind_at xs ys i x at =
    let within = slice_get_within ys i x at in
    slice_get_read (xs ++ ys) (length (xs ++ ys)) (length xs + i) x refl (omega (arith, within, length-append xs ys))
    (sym (get_or-append-add xs ys i x ∙ get_or_from_slice_get ys i x x at))

-- a key of one more pair is one of those before, or of this one
one_more : {P : Type 0} (pairs : List Pair) (count : ℕ) (key value : List ℕ) → value_of key (take (suc count) pairs) ≡ Some value
    → (value_of key (take count pairs) ≡ Some value → P)
    → (value_of key (take count pairs) ≡ None → slice_get pairs count ≡ Some (key, value) → P) → P
one_more [] count key value is before last = absurd cc
one_more (pair ∷ pairs) zero key value is before last = by_test (bytes_eq key pair.0)
    (λ e. let that : Some pair.1 ≡ Some value = rw e at is in
    last refl (ap (λ (k : List ℕ). Some (k, pair.1)) (sym (same key pair.0 e)) ∙ ap (λ (v : List ℕ). Some (key, v)) (same_Some pair.1 value that)))
    (λ e. let never : None ≡ Some value = rw e at is in absurd cc)
one_more (pair ∷ pairs) (suc count) key value is before last = by_test (bytes_eq key pair.0)
    (λ e. before (rw e (rw e at is)))
    (λ e. one_more pairs count key value (rw e at is) (λ was. before (rw e was)) (λ none at. last (rw e none) at))

-- a key that stands among the first pairs has a value there
has_value : (pairs : List Pair) (count node : ℕ) (key value : List ℕ) → node < count → slice_get pairs node ≡ Some (key, value)
    → value_of key (take count pairs) ≡ None → ⊥
has_value [] count node key value within at none = cc
has_value (pair ∷ pairs) zero node key value within at none = omega (arith, within)
has_value (pair ∷ pairs) (suc count) zero key value within at none =
    let is : pair ≡ (key, value) = same_Some _ _ at in
    let never : Some value ≡ None = rw (is, itself key) at none in
    cc
has_value (pair ∷ pairs) (suc count) (suc node) key value within at none = by_test (bytes_eq key pair.0)
    (λ e. let never : Some pair.1 ≡ None = rw e at none in cc)
    (λ e. has_value pairs count node key value (omega (arith, within)) at (rw e at none))

-- ---- walks

keyed_once : (pairs : List Pair) (key : List ℕ) (node : ℕ) → IsKeyed pairs key node true → IsKeyed pairs key node false → ⊥
keyed_once pairs key node is other =
    let e : is.pair ≡ other.pair = same_Some _ _ (sym is.stands ∙ other.stands) in
    false≢true (sym other.tests ∙ ap (λ (p : Pair). bytes_eq p.0 key) (sym e) ∙ is.tests)

keyed_more : (pairs more : List Pair) (key : List ℕ) (node : ℕ) (b : Bool) → IsKeyed pairs key node b → IsKeyed (pairs ++ more) key node b
keyed_more pairs more key node b keyed =
    record { pair = keyed.pair; stands = front_at pairs more node keyed.pair keyed.stands; tests = keyed.tests }

module _ (links : List ℕ) (pairs : List Pair) (key : List ℕ) where
  leads_once : (s t depth from a b : ℕ) → Leads links pairs key s depth from a → Leads links pairs key t depth from b → a ≡ b
  leads_once zero zero depth from a b one other = sym one.0 ∙ other.0
  leads_once zero (suc t) depth from a b one other = absurd (keyed_once pairs key from one.1 other.1)
  leads_once (suc s) zero depth from a b one other = absurd (keyed_once pairs key from other.1 one.1)
  leads_once (suc s) (suc t) depth from a b one other =
      let e : other.0 ≡ one.0 = same_Some _ _ (sym other.2 ∙ one.2) in
      leads_once s t (depth + 1) one.0 a b one.4 (subst (λ (n : ℕ). Leads links pairs key t (depth + 1) n b) e other.4)

  leads_keyed : (s depth from to : ℕ) → Leads links pairs key s depth from to → IsKeyed pairs key to true
  leads_keyed zero depth from to leads = subst (λ (n : ℕ). IsKeyed pairs key n true) leads.0 leads.1
  leads_keyed (suc s) depth from to leads = leads_keyed s (depth + 1) leads.0 to leads.4

  -- a walk meets none of the children that are not there
  leads_kept : (new : List ℕ) → KeepsChildren links new → (s depth from to : ℕ) → Leads links pairs key s depth from to
      → Leads new pairs key s depth from to
  leads_kept new kept zero depth from to leads = leads
  leads_kept new kept (suc s) depth from to leads =
      (leads.0, leads.1, kept (slot_of key depth from) leads.0 leads.2 leads.3, leads.3, leads_kept new kept s (depth + 1) leads.0 to leads.4)

  leads_more : (more : List Pair) (s depth from to : ℕ) → Leads links pairs key s depth from to → Leads links (pairs ++ more) key s depth from to
  leads_more more zero depth from to leads = (leads.0, keyed_more pairs more key from true leads.1)
  leads_more more (suc s) depth from to leads =
      (leads.0, keyed_more pairs more key from false leads.1, leads.2, leads.3, leads_more more s (depth + 1) leads.0 to leads.4)

-- ---- the first pairs, and one more

-- more pairs do not change where walks of the first end
pub tells_among_more : (links : List ℕ) (pairs more : List Pair) → TellsPlaces links pairs (length pairs)
    → TellsPlaces links (pairs ++ more) (length pairs)
tells_among_more links pairs more tells key value is =
    let all : take (length pairs) pairs ≡ pairs = take_all (length pairs) pairs (omega arith) in
    let placed = tells key value (ap (value_of key) (all ∙ sym (take-append_seam pairs more)) ∙ is) in
    record {
      place = placed.place;
      ends = (placed.ends.0, leads_more links pairs key more placed.ends.0 0 0 placed.place placed.ends.1);
      within = placed.within;
      stands = front_at pairs more placed.place (key, value) placed.stands;
    }

pub tells_still : (old new : List ℕ) (pairs : List Pair) (count : ℕ) → KeepsChildren old new → TellsPlaces old pairs count
    → TellsPlaces new pairs count
tells_still old new pairs count kept tells key value is =
    let placed = tells key value is in
    record {
      place = placed.place;
      ends = (placed.ends.0, leads_kept old pairs key new kept placed.ends.0 0 0 placed.place placed.ends.1);
      within = placed.within;
      stands = placed.stands;
    }

-- the walk of a key that is none of the first pairs ends after them
ends_past : (links : List ℕ) (pairs : List Pair) (count : ℕ) (key : List ℕ) (node : ℕ) → EndsAt links pairs key node
    → value_of key (take count pairs) ≡ None → count ≤ node
ends_past links pairs count key node ends none = elim (cases_lt node count) [
  | inl less ↦ (
      let named = leads_keyed links pairs key ends.0 0 0 node ends.1 in
      let stands = named.stands ∙ ap (λ (k : List ℕ). Some (k, named.pair.1)) (same named.pair.0 key named.tests) in
      absurd (has_value pairs count node key named.pair.1 less stands none))
  | inr past ↦ past
]

-- the value where the walk of a key ends is its value among the first pairs
pub said_at : (links : List ℕ) (pairs more : List Pair) (key : List ℕ) (node : ℕ) → TellsPlaces links (pairs ++ more) (length pairs)
    → EndsAt links (pairs ++ more) key node → value_of key pairs ≡ option_map (λ (p : Pair). p.1) (slice_get pairs node)
said_at links pairs more key node tells ends = go (value_of key pairs) refl
  where
    first : take (length pairs) (pairs ++ more) ≡ pairs
    first = take-append_seam pairs more

    go : (said : Option (List ℕ)) → value_of key pairs ≡ said → value_of key pairs ≡ option_map (λ (p : Pair). p.1) (slice_get pairs node)
    go None none =
        let past = ends_past links (pairs ++ more) (length pairs) key node ends (ap (value_of key) first ∙ none) in
        none ∙ sym (ap (option_map (λ (p : Pair). p.1)) (slice_get_past pairs node past))
    go (Some value) is =
        let placed = tells key value (ap (value_of key) first ∙ is) in
        let here = leads_once links (pairs ++ more) key placed.ends.0 ends.0 0 0 placed.place node placed.ends.1 ends.1 in
        let stands = ap (slice_get pairs) (sym here) ∙ at_front pairs more placed.place (key, value) placed.within placed.stands in
        is ∙ sym (ap (option_map (λ (p : Pair). p.1)) stands)

-- one more pair, the walk of whose key ends at its node or before
pub tells_one_more : (links : List ℕ) (pairs : List Pair) (count : ℕ) (pair : Pair) (node : ℕ)
    → slice_get pairs count ≡ Some pair → node ≤ count → EndsAt links pairs pair.0 node → TellsPlaces links pairs count → TellsPlaces links pairs (count + 1)
tells_one_more links pairs count pair node stands within ends tells key value is =
    one_more pairs count key value (rw add-one at is)
    (λ before.
    let placed = tells key value before in
    record { place = placed.place; ends = placed.ends; within = omega (arith, placed.within); stands = placed.stands })
    (λ none last.
    let this : pair ≡ (key, value) = same_Some _ _ (sym stands ∙ last) in
    let ends_here : EndsAt links pairs key node = subst (λ (k : List ℕ). EndsAt links pairs k node) (ap (λ (p : Pair). p.0) this) ends in
    let here : count ≡ node = omega (arith, within, ends_past links pairs count key node ends_here none) in
    record { place = node; ends = ends_here; within = omega (arith, here); stands = ap (slice_get pairs) (sym here) ∙ last })

pub tree_of_all : (links : List ℕ) (pairs more : List Pair) (at : ℕ) → at ≡ length more → length links ≡ 2 * (length pairs + at)
    → TellsPlaces links (pairs ++ more) (length pairs + at) → IsTreeOf links (pairs ++ more)
tree_of_all links pairs more at whole size tells =
    let all : length pairs + at ≡ length (pairs ++ more) = omega (arith, whole, length-append pairs more) in
    record { size = omega (arith, size, all); tells = subst (λ (n : ℕ). TellsPlaces links (pairs ++ more) n) all tells }
