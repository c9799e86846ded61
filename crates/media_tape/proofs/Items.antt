-- Items in front of bytes: one after the other, after a place, and after other bytes.
use Rattle.std.proofs.Common.{◌≡◌, ℕ, zero, suc, ◌+◌, ◌-◌, ◌≤◌, ◌<◌, Bool, true, false, IsTrue, if◌then◌else◌, List, [], ◌∷◌, ◌++◌, length}
use Rattle.std.proofs.Common.{take, drop, Option, Some, None, ◌⊎◌, inl, inr, refl, ap, sym, subst, ◌∙◌, arith, rules, length-drop}
use Rattle.std.proofs.Common.{length-append}
use Rattle.std.proofs.lemmas.List.{append_assoc, take-take, drop-take, drop-drop, drop_at, take-append-le, drop-append-le, length-take-le, length-take}
use Rattle.std.proofs.Math.Seq.{take-add}
use Rattle.byteorder.specs.Endian.{big_number}
use Rattle.byteorder.specs.Numbers.{big_from-append, big_from-take}
use Rattle.media_tape.specs.Items.{most_bytes, Item, Record, Filemark, data_of, item_of, Fits, size, size_of, is_whole, front, items_in, items_of}

pub data_of-item_of : (bytes : List ℕ) → data_of (item_of bytes) ≡ bytes
data_of-item_of [] = refl
data_of-item_of (byte ∷ bytes) = refl

pub item_of-data_of : (item : Item) → Fits item → item_of (data_of item) ≡ item
item_of-data_of (Record []) fits = absurd (omega (arith, fits.0))
item_of-data_of (Record (byte ∷ bytes)) fits = refl
item_of-data_of Filemark fits = refl

-- what it means that an item is whole in front of bytes
pub record IsFront (bytes : List ℕ) (n : ℕ) : Type 0 where
  pub number : big_number 4 bytes ≡ n
  pub most : n ≤ most_bytes
  pub within : n + 8 ≤ length bytes
  pub again : big_number 4 (drop (n + 4) bytes) ≡ n

if_some : (b : Bool) (m n : ℕ) → (if b then Some m else None) ≡ Some n → IsTrue b × (m ≡ n)
if_some true m n is = (refl, cc)
if_some false m n is = cc

whole-is : (n : ℕ) (bytes : List ℕ) → IsTrue (is_whole n bytes) → (n ≤ most_bytes) × (n + 8 ≤ length bytes) × (big_number 4 (drop (n + 4) bytes) ≡ n)
whole-is n bytes is = (search rules, search rules, search rules)

pub front-is : (bytes : List ℕ) (n : ℕ) → front bytes ≡ Some n → IsFront bytes n
unfolding front
front-is bytes n is =
    let told = if_some (is_whole (big_number 4 bytes) bytes) (big_number 4 bytes) n is in
    let whole = whole-is n bytes (subst (λ (m : ℕ). IsTrue (is_whole m bytes)) told.1 told.0) in
    record { number = told.1; most = whole.0; within = whole.1; again = whole.2 }

is-whole : (n : ℕ) (bytes : List ℕ) → n ≤ most_bytes → n + 8 ≤ length bytes → big_number 4 (drop (n + 4) bytes) ≡ n → is_whole n bytes ≡ true
is-whole n bytes most within again = search rules

if-true : (b : Bool) (n : ℕ) → b ≡ true → (if b then Some n else None) ≡ Some n
if-true b n is = rw is refl

pub is-front : (bytes : List ℕ) (n : ℕ) → IsFront bytes n → front bytes ≡ Some n
unfolding front
is-front bytes n is =
    ap (λ (m : ℕ). if is_whole m bytes then Some m else None) is.number
    ∙ if-true (is_whole n bytes) n (is-whole n bytes is.most is.within is.again)

-- ---- one item and those after it

next : Option ℕ → ℕ → List ℕ → List Item
next found most bytes =
    elim found [ None ↦ [] | Some n ↦ item_of (take n (drop 4 bytes)) ∷ items_in most (drop (n + 8) bytes) ]

in-suc : (most : ℕ) (bytes : List ℕ) → items_in (suc most) bytes ≡ next (front bytes) most bytes
unfolding items_in next
in-suc most bytes = refl

in-some : (most n : ℕ) (bytes : List ℕ) → front bytes ≡ Some n
    → items_in (suc most) bytes ≡ item_of (take n (drop 4 bytes)) ∷ items_in most (drop (n + 8) bytes)
unfolding next
in-some most n bytes is = in-suc most bytes ∙ ap (λ (found : Option ℕ). next found most bytes) is

in-none : (most : ℕ) (bytes : List ℕ) → front bytes ≡ None → items_in most bytes ≡ []
unfolding next items_in
in-none zero bytes is = refl
in-none (suc most) bytes is = in-suc most bytes ∙ ap (λ (found : Option ℕ). next found most bytes) is

-- a number beyond the bytes changes nothing
by-front : (f g : ℕ) (bytes : List ℕ) (found : Option ℕ) → front bytes ≡ found → length bytes ≤ f → length bytes ≤ g
    → ((rest : List ℕ) → length rest < length bytes → length rest ≤ f - 1 → length rest ≤ g - 1 → items_in (f - 1) rest ≡ items_in (g - 1) rest)
    → items_in f bytes ≡ items_in g bytes
by-front f g bytes None is below below' same = in-none f bytes is ∙ sym (in-none g bytes is)
by-front f g bytes (Some n) is below below' same =
    let within = (front-is bytes n is).within in
    let f_is : f ≡ suc (f - 1) = omega arith in
    let g_is : g ≡ suc (g - 1) = omega arith in
    let rest = drop (n + 8) bytes in
    let shorter : length rest + (n + 8) ≡ length bytes = omega (arith, length-drop (n + 8) bytes) in
    let item = item_of (take n (drop 4 bytes)) in
    ap (λ (m : ℕ). items_in m bytes) f_is ∙ in-some (f - 1) n bytes is
    ∙ ap (λ (items : List Item). item ∷ items) (same rest (omega arith) (omega arith) (omega arith))
    ∙ sym (in-some (g - 1) n bytes is) ∙ sym (ap (λ (m : ℕ). items_in m bytes) g_is)

same-fuel : (k f g : ℕ) (bytes : List ℕ) → length bytes ≤ k → length bytes ≤ f → length bytes ≤ g → items_in f bytes ≡ items_in g bytes
same-fuel zero f g bytes short below below' =
    by-front f g bytes (front bytes) refl below below' (λ rest less b b'. absurd (omega arith))
same-fuel (suc k) f g bytes short below below' =
    by-front f g bytes (front bytes) refl below below' (λ rest less b b'. same-fuel k (f - 1) (g - 1) rest (omega arith) b b')

pub items_of-next : (bytes : List ℕ) (n : ℕ) → front bytes ≡ Some n → items_of bytes ≡ item_of (take n (drop 4 bytes)) ∷ items_of (drop (n + 8) bytes)
items_of-next bytes n is =
    let within = (front-is bytes n is).within in
    let rest = drop (n + 8) bytes in
    let shorter : length rest + (n + 8) ≡ length bytes = omega (arith, length-drop (n + 8) bytes) in
    let most : length bytes ≡ suc (length bytes - 1) = omega arith in
    ap (λ (m : ℕ). items_in m bytes) most ∙ in-some (length bytes - 1) n bytes is
    ∙ ap (λ (items : List Item). item_of (take n (drop 4 bytes)) ∷ items)
    (same-fuel (length rest) (length bytes - 1) (length rest) rest (omega arith) (omega arith) (omega arith))

pub items_of-none : (bytes : List ℕ) → front bytes ≡ None → items_of bytes ≡ []
items_of-none bytes is = in-none (length bytes) bytes is

-- ---- items up to a place, and from there on

-- the length of an item that is read
pub length-front : (bytes : List ℕ) (n : ℕ) → front bytes ≡ Some n → size (item_of (take n (drop 4 bytes))) ≡ n + 8
length-front bytes n is =
    let within = (front-is bytes n is).within in
    let behind = length-drop 4 bytes in
    ap (λ (xs : List ℕ). length xs + 8) (data_of-item_of (take n (drop 4 bytes)))
    ∙ ap (λ (m : ℕ). m + 8) (length-take-le n (drop 4 bytes) (omega arith))

found-cases : (found : Option ℕ) → (found ≡ None) ⊎ ((n : ℕ) × (found ≡ Some n))
found-cases None = inl refl
found-cases (Some n) = inr (n, refl)

-- an item is in front of bytes or none is
pub front-cases : (bytes : List ℕ) → (front bytes ≡ None) ⊎ ((n : ℕ) × (front bytes ≡ Some n))
front-cases bytes = found-cases (front bytes)

-- where a place is a sum of sizes, the items after it are those of the bytes from there on
pub drop-items_of : (k : ℕ) (bytes : List ℕ) → k ≤ length (items_of bytes)
    → drop k (items_of bytes) ≡ items_of (drop (size_of (take k (items_of bytes))) bytes)
drop-items_of zero bytes within = refl
drop-items_of (suc k) bytes within =
    elim (front-cases bytes) [
      | inl none ↦ let is = items_of-none bytes none in absurd (omega (arith, rw is at within))
      | inr found ↦
          let n = found.0 in
          let is = items_of-next bytes n found.1 in
          let rest = drop (n + 8) bytes in
          let below : k ≤ length (items_of rest) = omega (arith, rw is at within) in
          rw (is, length-front bytes n found.1, ← drop-drop (size_of (take k (items_of rest))) (n + 8) bytes) (drop-items_of k rest below)
    ]

-- bytes after an item change nothing
pub front-append : (n : ℕ) (bytes others : List ℕ) → front bytes ≡ Some n → front (bytes ++ others) ≡ Some n
front-append n bytes others found =
    let is = front-is bytes n found in
    let within = is.within in
    let long = length-append bytes others in
    let behind = length-drop (n + 4) bytes in
    is-front (bytes ++ others) n (record {
      number = big_from-append 4 bytes others (omega arith) ∙ is.number;
      most = is.most;
      within = omega arith;
      again = ap (big_number 4) (drop-append-le (n + 4) bytes others (omega arith))
          ∙ big_from-append 4 (drop (n + 4) bytes) others (omega arith) ∙ is.again;
    })

-- nor those cut off after it
pub front-take : (n m : ℕ) (bytes : List ℕ) → front bytes ≡ Some n → n + 8 ≤ m → front (take m bytes) ≡ Some n
front-take n m bytes found below =
    let is = front-is bytes n found in
    let within = is.within in
    let long = length-take m bytes in
    let four : 4 + (m - 4) ≡ m = omega arith in
    let behind : n + 4 + (m - (n + 4)) ≡ m = omega arith in
    is-front (take m bytes) n (record {
      number = big_from-take 0 4 m bytes (omega arith) ∙ is.number;
      most = is.most;
      within = omega arith;
      again = ap (λ (to : ℕ). big_number 4 (drop (n + 4) (take to bytes))) (sym behind)
          ∙ ap (big_number 4) (drop-take (n + 4) (m - (n + 4)) bytes)
          ∙ big_from-take 0 4 (m - (n + 4)) (drop (n + 4) bytes) (omega arith) ∙ is.again;
    })

-- bytes that begin with an item, as it is spelled
pub items_of-front : (n : ℕ) (bytes others : List ℕ) → front bytes ≡ Some n
    → items_of (take (n + 8) bytes ++ others) ≡ item_of (take n (drop 4 bytes)) ∷ items_of others
items_of-front n bytes others found =
    let within = (front-is bytes n found).within in
    let whole : length (take (n + 8) bytes) ≡ n + 8 = length-take-le (n + 8) bytes within in
    let cut = front-take n (n + 8) bytes found (omega arith) in
    let split : n + 8 ≡ 4 + (n + 4) = omega arith in
    let bytes_in : take n (drop 4 (take (n + 8) bytes ++ others)) ≡ take n (drop 4 bytes) =
    rw (drop-append-le 4 (take (n + 8) bytes) others (omega arith), split, drop-take 4 (n + 4) bytes)
    (take-append-le n (take (n + 4) (drop 4 bytes)) others (omega (arith, length-take (n + 4) (drop 4 bytes), length-drop 4 bytes))
    ∙ take-take n (n + 4) (drop 4 bytes) (omega arith)) in
    items_of-next (take (n + 8) bytes ++ others) n (front-append n (take (n + 8) bytes) others cut)
    ∙ rw (bytes_in, drop_at (take (n + 8) bytes) others (n + 8) whole) refl

-- what comes after a place leaves the items before it
pub items_of-replaced : (k : ℕ) (bytes others : List ℕ)
    → items_of (take (size_of (take k (items_of bytes))) bytes ++ others) ≡ take k (items_of bytes) ++ items_of others
items_of-replaced zero bytes others = refl
items_of-replaced (suc k) bytes others =
    elim (front-cases bytes) [
      | inl none ↦ rw (items_of-none bytes none) refl
      | inr found ↦
          let n = found.0 in
          let rest = drop (n + 8) bytes in
          let place = size_of (take k (items_of rest)) in
          rw (
            items_of-next bytes n found.1,
            length-front bytes n found.1,
            take-add (n + 8) place bytes,
            append_assoc (take (n + 8) bytes) (take place rest) others,
            items_of-front n bytes (take place rest ++ others) found.1,
            items_of-replaced k rest others,
          ) refl
    ]

-- ---- a record has a byte at least

abbrev pub HasBytes : Item → Type 0
HasBytes (Record bytes) = 0 < length bytes
HasBytes Filemark = Unit {0}

pub item_of-has : (bytes : List ℕ) → HasBytes (item_of bytes)
item_of-has [] = tt
item_of-has (byte ∷ bytes) = omega arith
