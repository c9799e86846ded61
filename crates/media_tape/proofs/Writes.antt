-- What writes from a place on leave of a content, and what they put there.
use Rattle.std.proofs.Common.{◌≡◌, ℕ, ◌+◌, ◌-◌, ◌≤◌, nat_lt, true, List, [], ◌∷◌, ◌++◌, length, take, drop, replicate, refl, sym}
use Rattle.std.proofs.Common.{min, ap, subst, ◌∙◌, arith, rules}
use Rattle.std.proofs.lemmas.List.{append-nil, take-take, take_all, drop_all, take-append-le, length-append, length-take}
use Rattle.media_store.specs.Content.{resized, written, KeepsOutside}
use Rattle.media_tape.specs.Writing.{KeepsBefore}

pub KeepsBefore-trans : (place : ℕ) (xs ys zs : List ℕ) → KeepsBefore place xs ys → KeepsBefore place ys zs → KeepsBefore place xs zs
KeepsBefore-trans place xs ys zs first second within =
    let one = first within in
    let two = second one.0 in
    (two.0, two.1 ∙ one.1)

front-resized : (place at : ℕ) (content rest : List ℕ) → place ≤ at → place ≤ length content → take place (resized at content ++ rest) ≡ take place content
front-resized place at content rest below within =
    let long = length-take at content in
    let whole = length-append (take at content) (replicate (at - length content) 0) in
    take-append-le place (resized at content) rest (omega arith)
    ∙ take-append-le place (take at content) (replicate (at - length content) 0) (omega arith)
    ∙ take-take place at content below

pub KeepsBefore-written : (place at : ℕ) (bytes content : List ℕ) → place ≤ at → KeepsBefore place content (written at bytes content)
KeepsBefore-written place at [] content below within = (within, refl)
KeepsBefore-written place at (byte ∷ bytes) content below within =
    let some : nat_lt 0 (length (byte ∷ bytes)) ≡ true = search rules in
    let long = length-take at content in
    let whole = length-append (take at content) (replicate (at - length content) 0) in
    let all = length-append (resized at content) ((byte ∷ bytes) ++ drop (at + length (byte ∷ bytes)) content) in
    rw some (omega arith, front-resized place at content ((byte ∷ bytes) ++ drop (at + length (byte ∷ bytes)) content) below within)

pub KeepsBefore-put : (place at : ℕ) (bytes old new : List ℕ) → place ≤ at → new ≡ written at bytes old → KeepsBefore place old new
KeepsBefore-put place at bytes old new below is = subst (KeepsBefore place old) (sym is) (KeepsBefore-written place at bytes old below)

-- a write that failed
pub KeepsBefore-torn : (place at n : ℕ) (old new : List ℕ) → place ≤ at → KeepsOutside at n old new → KeepsBefore place old new
KeepsBefore-torn place at n old new below torn within = (
  omega (arith, torn.no_shorter),
  sym (take-take place (min at (length old)) new (omega arith)) ∙ ap (take place) torn.before ∙ take-take place at old below,
)

-- bytes after all others
pub written-behind : (at : ℕ) (bytes content : List ℕ) → length content ≡ at → written at bytes content ≡ content ++ bytes
written-behind at [] content is = sym (append-nil content)
written-behind at (byte ∷ bytes) content is =
    let some : nat_lt 0 (length (byte ∷ bytes)) ≡ true = search rules in
    let none : at - length content ≡ 0 = omega arith in
    let behind = drop_all (at + length (byte ∷ bytes)) content (omega arith) in
    rw (some, none, take_all at content (omega arith), behind, append-nil content, append-nil (byte ∷ bytes)) refl
