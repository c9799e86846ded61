-- A search among what a function makes of names, or of data that functions wait for, and what is set or removed where it was found.
use Rattle.std.proofs.Common.{◌≡◌, ◌≢◌, ℕ, zero, suc, ◌<◌, List, [], ◌∷◌, ◌++◌, length, map, set, Bool, true, false, cond, ◌||◌, Option, Some, None, ◌==◌, eqb, refl, sym, ap, ◌∙◌, inl, inr, arith, ◌&&◌, subst}
use Rattle.std.specs.Prelude.{All, position, find, filter, remove, option_map, is_some, slice_get, slice_index_or}
use Rattle.std.proofs.lemmas.Bool.{cases_eq, eq-eqb, eqb-true, ne_eqb}
use Rattle.std.proofs.lemmas.List.{map-append}
use Rattle.std.proofs.lemmas.List.Elements.{filter-append, All-head, All-tail}
use Rattle.iscsi_requests.specs.Requests.{is_in, left, Drain}
use Rattle.iscsi_requests.specs.State.{AreDistinct}
use Rattle.iscsi_requests.proofs.Left.{left_first, map_cong}

-- ---- a search

pub position_with : {Y : Type 0} (b : Bool) (p : Y → Bool) (y : Y) (ys : List Y) → p y ≡ b
    → position p (y ∷ ys) ≡ cond b (Some 0) (option_map suc (position p ys))
position_with b p y ys e = grind arith

-- what a search among what f makes of names finds
abbrev pub Located : {Y : Type 0} → (Y → Bool) → (ℕ → Y) → List ℕ → Option ℕ → Type 0
Located p f names None = find (λ k. p (f k)) names ≡ None
Located p f names (Some i) = (k : ℕ) × (find (λ k. p (f k)) names ≡ Some k) × (slice_get names i ≡ Some k) × (i < length names) × (p (f k) ≡ true)

behind : {Y : Type 0} (p : Y → Bool) (f : ℕ → Y) (a : ℕ) (names : List ℕ) (at : Option ℕ) → p (f a) ≡ false → Located p f names at
    → Located p f (a ∷ names) (option_map suc at)
behind p f a names None e found = rw e found
behind p f a names (Some i) e found = (found.0, rw e found.1, found.2, (let lt = found.3 in omega arith), found.4)

located_with : {Y : Type 0} (b : Bool) (p : Y → Bool) (f : ℕ → Y) (a : ℕ) (names : List ℕ) → p (f a) ≡ b
    → Located p f names (position p (map f names)) → Located p f (a ∷ names) (cond b (Some 0) (option_map suc (position p (map f names))))
located_with true p f a names e found = (a, rw e refl, refl, omega arith, e)
located_with false p f a names e found = behind p f a names (position p (map f names)) e found

pub located : {Y : Type 0} (p : Y → Bool) (f : ℕ → Y) (names : List ℕ) → Located p f names (position p (map f names))
located p f [] = refl
located p f (a ∷ names) = grind (arith, located p f names, position_with, located_with)

-- what stands there
pub index_map : {X Y : Type 0} (f : X → Y) (d : Y) (xs : List X) (i : ℕ) (x : X) → slice_get xs i ≡ Some x → slice_index_or (map f xs) i d ≡ f x
index_map f d [] i x e = absurd cc
index_map f d (a ∷ xs) zero x e = let same : a ≡ x = cc in ap f same
index_map f d (a ∷ xs) (suc i) x e = index_map f d xs i x e

pub or_known : (a b : Bool) → b ≡ true → (a || b) ≡ true
or_known a b e = grind arith

in_named : {X : Type 0} (name : X → ℕ) (xs : List X) (i : ℕ) (x : X) → slice_get xs i ≡ Some x → is_in (name x) (map name xs) ≡ true
in_named name [] i x e = absurd cc
in_named name (a ∷ xs) zero x e = let same : a ≡ x = cc in rw (eq-eqb (name a) (name x) (ap name same)) refl
in_named name (a ∷ xs) (suc i) x e = or_known (eqb (name a) (name x)) (is_in (name x) (map name xs)) (in_named name xs i x e)

named_so : (names : List ℕ) → map (λ k. k) names ≡ names
named_so [] = refl
named_so (k ∷ names) = ap (λ (l : List ℕ). k ∷ l) (named_so names)

pub in_get : (names : List ℕ) (i k : ℕ) → slice_get names i ≡ Some k → is_in k names ≡ true
in_get names i k e = ap (is_in k) (sym (named_so names)) ∙ in_named (λ a. a) names i k e

differs : (a k : ℕ) (names : List ℕ) → is_in a names ≡ false → is_in k names ≡ true → k ≢ a
differs a k names none there same = let h = sym there ∙ ap (λ (n : ℕ). is_in n names) same ∙ none in cc

-- ---- one is changed

all_same : {X Y : Type 0} (name : X → ℕ) (f g : X → Y) (k : ℕ) (xs : List X) → is_in k (map name xs) ≡ false → ((x : X) → name x ≢ k → g x ≡ f x)
    → map f xs ≡ map g xs
all_same name f g k [] none same = refl
all_same name f g k (a ∷ xs) none same = elim (cases_eq (name a) k) [
  | inl here ↦ absurd (let h = rw (eq-eqb (name a) k here) at none in cc)
  | inr apart ↦ let rest = rw (ne_eqb (name a) k apart) at none in rw (same a apart, all_same name f g k xs rest same) refl
]

pub same_all : {Y : Type 0} (f g : ℕ → Y) (k : ℕ) (names : List ℕ) → is_in k names ≡ false → ((j : ℕ) → j ≢ k → g j ≡ f j) → map f names ≡ map g names
same_all f g k names none same = all_same (λ a. a) f g k names (ap (is_in k) (named_so names) ∙ none) same

set_named : {X Y : Type 0} (name : X → ℕ) (f g : X → Y) (xs : List X) (i : ℕ) (x : X) → AreDistinct (map name xs) → slice_get xs i ≡ Some x
    → ((y : X) → name y ≢ name x → g y ≡ f y) → set (map f xs) i (g x) ≡ map g xs
set_named name f g [] i x distinct at same = absurd cc
set_named name f g (a ∷ xs) zero x distinct at same = grind (arith, all_same)
set_named name f g (a ∷ xs) (suc i) x distinct at same = grind (arith, set_named name f g xs i x distinct.1 at same, differs, in_named)

pub set_map : {Y : Type 0} (f g : ℕ → Y) (names : List ℕ) (i k : ℕ) → AreDistinct names → slice_get names i ≡ Some k
    → ((j : ℕ) → j ≢ k → g j ≡ f j) → set (map f names) i (g k) ≡ map g names
set_map f g names i k distinct at same = set_named (λ a. a) f g names i k (subst AreDistinct (sym (named_so names)) distinct) at same

-- ---- one is removed

stays : (a k : ℕ) (names : List ℕ) → a ≢ k → left (k ∷ []) (a ∷ names) ≡ a ∷ left (k ∷ []) names
unfolding left
stays a k names apart = rw (ne_eqb k a (λ e. apart (sym e))) refl

pub remove_map : {Y : Type 0} (f : ℕ → Y) (names : List ℕ) (i k : ℕ) → AreDistinct names → slice_get names i ≡ Some k
    → remove (map f names) i ≡ map f (left (k ∷ []) names)
remove_map {Y = Y} f [] i k distinct at = absurd cc
remove_map {Y = Y} f (a ∷ names) zero k distinct at = grind (arith, left_first)
remove_map {Y = Y} f (a ∷ names) (suc i) k distinct at = grind (arith, remove_map f names i k distinct.1 at, differs, in_get, stays)

-- ---- what was not found

pub missing : (f : ℕ → ℕ) (n : ℕ) (names : List ℕ) → find (λ k. f k == n) names ≡ None → is_in n (map f names) ≡ false
missing f n [] e = refl
missing f n (a ∷ names) e = grind (arith, missing f n names)

-- ---- what was found

pub found_or_not : {Y : Type 0} (p : Y → Bool) (f : ℕ → Y) (names : List ℕ) (at : Option ℕ) → Located p f names at
    → is_some at ≡ is_some (find (λ k. p (f k)) names)
found_or_not p f names at found = grind arith

self_with : (b : Bool) (f : ℕ → ℕ) (k a : ℕ) (names : List ℕ) → (f a == f k) ≡ b → (b ≡ true → a ≡ k) → (b ≡ false → find (λ j. f j == f k) names ≡ Some k)
    → find (λ j. f j == f k) (a ∷ names) ≡ Some k
self_with b f k a names e here rest = grind arith

pub in_map : (f : ℕ → ℕ) (k : ℕ) (names : List ℕ) → is_in k names ≡ true → is_in (f k) (map f names) ≡ true
in_map f k [] e = absurd cc
in_map f k (a ∷ names) e = elim (cases_eq a k) [
  | inl same ↦ rw (eq-eqb (f a) (f k) (ap f same)) refl
  | inr apart ↦ let there = rw (ne_eqb a k apart) at e in or_known (f a == f k) (is_in (f k) (map f names)) (in_map f k names there)
]

-- where values are distinct, a search for the value of one finds it
pub found_self : (f : ℕ → ℕ) (k : ℕ) (names : List ℕ) → AreDistinct (map f names) → is_in k names ≡ true → find (λ j. f j == f k) names ≡ Some k
found_self f k [] distinct e = absurd cc
found_self f k (a ∷ names) distinct e = elim (cases_eq a k) [
  | inl same ↦ self_with (f a == f k) f k a names refl (λ h. same) (λ h. absurd (let no = sym (eq-eqb (f a) (f k) (ap f same)) ∙ h in cc))
  | inr apart ↦
      let there = rw (ne_eqb a k apart) at e in
      self_with (f a == f k) f k a names refl
      (λ h. absurd (let no = sym (in_map f k names there) ∙ ap (λ (n : ℕ). is_in n (map f names)) (sym (eqb-true (f a) (f k) h)) ∙ distinct.0 in cc))
      (λ h. found_self f k names distinct.1 there)
]

pub first_passes : (q : ℕ → Bool) (k : ℕ) (names : List ℕ) → find q names ≡ Some k → (others : List ℕ) × (filter q names ≡ k ∷ others)
first_passes q k [] e = absurd cc
first_passes q k (a ∷ names) e = first_with (q a) refl (λ h. first_passes q k names h)
  where
    first_with : (b : Bool) → q a ≡ b → (find q names ≡ Some k → (others : List ℕ) × (filter q names ≡ k ∷ others))
        → (others : List ℕ) × (filter q (a ∷ names) ≡ k ∷ others)
    first_with true is rest = let same : Some a ≡ Some k = rw is at e in let here : a ≡ k = cc in
        (filter q names, rw is (ap (λ (n : ℕ). n ∷ filter q names) here))
    first_with false is rest = let h = rw is at e in let f = rest h in (f.0, rw is f.1)

pub none_passes : (q : ℕ → Bool) (names : List ℕ) → find q names ≡ None → filter q names ≡ []
none_passes q [] e = refl
none_passes q (a ∷ names) e = grind (arith, none_passes q names)

pub count_map : {Y : Type 0} (p : Y → Bool) (f : ℕ → Y) (names : List ℕ) → length (filter p (map f names)) ≡ length (filter (λ k. p (f k)) names)
count_map p f [] = refl
count_map p f (a ∷ names) = grind (arith, count_map p f names)

-- ---- what is told of one name

-- one item more, of this name or of another
pub one_more : {A B : Type 0} (b : Bool) (name : A → ℕ) (value : A → B) (x : A) (j : ℕ) (l : List A) → eqb (name x) j ≡ b
    → map value (filter (λ a. name a == j) (l ++ x ∷ [])) ≡ map value (filter (λ a. name a == j) l) ++ cond b (value x ∷ []) []
one_more true name value x j l e = grind (arith, filter-append, map-append)
one_more false name value x j l e = grind (arith, filter-append, map-append)

-- none of a name above all
pub none_named : {A : Type 0} (name : A → ℕ) (l : List A) (n : ℕ) → All (λ a. name a < n) l → filter (λ a. name a == n) l ≡ []
none_named name [] n below = refl
none_named name (a ∷ l) n below =
    grind (arith, none_named name l n (All-tail (λ a. name a < n) a l below), All-head (λ a. name a < n) a l below, ne_eqb)

-- ---- the data that functions wait for

abbrev commands_in : List Drain → List ℕ
commands_in drains = map (λ d. d.command) drains

-- what a search finds: among the commands for which a holds, and where they stand
abbrev pub LocatedAmong : (a q : ℕ → Bool) (drains : List Drain) → Option ℕ → Type 0
LocatedAmong a q drains None = find q (filter a (commands_in drains)) ≡ None
LocatedAmong a q drains (Some i) = (d : Drain) × (find q (filter a (commands_in drains)) ≡ Some d.command) × (slice_get drains i ≡ Some d)

passed_over : (x y : Bool) (a q : ℕ → Bool) (c : ℕ) (names : List ℕ) → (x && y) ≡ false → a c ≡ x → q c ≡ y
    → find q (filter a (c ∷ names)) ≡ find q (filter a names)
passed_over x y a q c names none p q_is = grind arith

later : (a q : ℕ → Bool) (d : Drain) (drains : List Drain) (at : Option ℕ) → (a d.command && q d.command) ≡ false → LocatedAmong a q drains at
    → LocatedAmong a q (d ∷ drains) (option_map suc at)
later a q d drains None e found = passed_over _ _ a q d.command (commands_in drains) e refl refl ∙ found
later a q d drains (Some i) e found = (found.0, passed_over _ _ a q d.command (commands_in drains) e refl refl ∙ found.1, found.2)

here : (x y : Bool) (a q : ℕ → Bool) (c : ℕ) (names : List ℕ) → (x && y) ≡ true → a c ≡ x → q c ≡ y → find q (filter a (c ∷ names)) ≡ Some c
here x y a q c names both p q_is = grind arith

either : (b : Bool) (a q : ℕ → Bool) (d : Drain) (drains : List Drain) (at : Option ℕ) → (a d.command && q d.command) ≡ b → LocatedAmong a q drains at
    → LocatedAmong a q (d ∷ drains) (cond b (Some 0) (option_map suc at))
either true a q d drains at e found = (d, here _ _ a q d.command (commands_in drains) e refl refl, refl)
either false a q d drains at e found = later a q d drains at e found

pub located_among : {Y : Type 0} (p : Y → Bool) (f : Drain → Y) (a q : ℕ → Bool) (drains : List Drain)
    → ((d : Drain) → p (f d) ≡ (a d.command && q d.command)) → LocatedAmong a q drains (position p (map f drains))
located_among p f a q [] same = refl
located_among p f a q (d ∷ drains) same = grind (arith, located_among p f a q drains same, position_with, either)

pub drain_at : (P : Drain → Type 0) (drains : List Drain) (i : ℕ) (d : Drain) → All P drains → slice_get drains i ≡ Some d → P d
drain_at P [] i d all e = absurd cc
drain_at P (first ∷ drains) zero d all e = let same : first ≡ d = cc in subst P same (All-head P first drains all)
drain_at P (first ∷ drains) (suc i) d all e = drain_at P drains i d (All-tail P first drains all) e

-- ---- one is changed

pub same_drains : {Y : Type 0} (f g : Drain → Y) (drains : List Drain) → All (λ d. g d ≡ f d) drains → map f drains ≡ map g drains
same_drains f g drains all = sym (map_cong g f drains all)

pub set_drains : {Y : Type 0} (f g : Drain → Y) (drains : List Drain) (i : ℕ) (d : Drain) → AreDistinct (commands_in drains) → slice_get drains i ≡ Some d
    → ((e : Drain) → e.command ≢ d.command → g e ≡ f e) → set (map f drains) i (g d) ≡ map g drains
set_drains f g drains i d = set_named (λ e. e.command) f g drains i d

-- ---- a search among the functions that wait

abbrev pub LocatedFunction : (q : ℕ → Bool) (drains : List Drain) → Option ℕ → Type 0
LocatedFunction q drains None = find q (map (λ d. d.function) drains) ≡ None
LocatedFunction q drains (Some i) = (d : Drain) × (find q (map (λ d. d.function) drains) ≡ Some d.function) × (slice_get drains i ≡ Some d)

named_by : (b : Bool) (q : ℕ → Bool) (d : Drain) (drains : List Drain) (at : Option ℕ) → q d.function ≡ b → LocatedFunction q drains at
    → LocatedFunction q (d ∷ drains) (cond b (Some 0) (option_map suc at))
named_by true q d drains at e found = (d, rw e refl, refl)
named_by false q d drains None e found = rw e found
named_by false q d drains (Some i) e found = (found.0, rw e found.1, found.2)

pub located_function : {Y : Type 0} (p : Y → Bool) (f : Drain → Y) (q : ℕ → Bool) (drains : List Drain)
    → All (λ d. p (f d) ≡ q d.function) drains → LocatedFunction q drains (position p (map f drains))
located_function p f q [] all = refl
located_function p f q (d ∷ drains) all =
    rw (position_with (p (f d)) p (f d) (map f drains) refl)
    (named_by (p (f d)) q d drains (position p (map f drains)) (sym (All-head (λ (x : Drain). p (f x) ≡ q x.function) d drains all))
    (located_function p f q drains (All-tail (λ (x : Drain). p (f x) ≡ q x.function) d drains all)))
