-- Strings, one after the other in one text.
use Rattle.std.proofs.Common.{◌≡◌, ℕ, zero, suc, ◌+◌, ◌-◌, ◌*◌, ◌<◌, ◌≤◌, ◌⊎◌, inl, inr, Some, refl, sym, ap, subst, arith}
use Rattle.std.proofs.Common.{List, [], ◌∷◌, ◌++◌, length, take, drop, get_or, length-append, length-drop}
use Rattle.std.specs.Prelude.{slice_get, slice_range}
use Rattle.std.specs.Str.{IsUtf8, IsCharBoundary}
use Rattle.std.specs.String.Boundary.{IsSplitPoint}
use Rattle.std.proofs.lemmas.Bool.{cases_lt}
use Rattle.std.proofs.lemmas.List.{take-append-drop, take-append-le, drop-append-le, length-take-le}
use Rattle.std.proofs.lemmas.List.{get_or_append_left, take_all, drop_at}
use Rattle.std.proofs.lemmas.Option.{get_or_from_slice_get}
use Rattle.std.proofs.lemmas.Str.{IsCharBoundary-at_seam}
use Rattle.iscsi_text.specs.Pairs.{Pair}
use Rattle.iscsi_text.specs.StringList.{strings_in, AreEnds, pairs_of, ArePairs}

pub length-strings_in : (text : List ℕ) (start : ℕ) (ends : List ℕ) → length (strings_in text start ends) ≡ length ends
length-strings_in text start [] = refl
length-strings_in text start (end ∷ ends) = omega (arith, length-strings_in text end ends)

pub within : (text ends : List ℕ) (strings : List (List ℕ)) (at : ℕ) → strings_in text 0 ends ≡ strings
    → at < length strings → at < length ends
within text ends strings at e lt = omega (arith, length-strings_in text 0 ends, ap length e)

-- ---- a place among the ends

record IsAt (text : List ℕ) (start : ℕ) (ends : List ℕ) (at : ℕ) : Type 0 where
  rises : get_or (start ∷ ends) at 0 ≤ get_or ends at 0
  boundary : IsCharBoundary text (get_or ends at 0)
  string : slice_get (strings_in text start ends) at
      ≡ Some (slice_range text (get_or (start ∷ ends) at 0) (get_or ends at 0))

is_at : (text : List ℕ) (start : ℕ) (ends : List ℕ) (at : ℕ) → AreEnds text start ends → at < length ends
    → IsAt text start ends at
is_at text start [] at are lt = absurd (omega arith)
is_at text start (end ∷ ends) zero are lt = record { rises = are.0; boundary = are.1; string = refl }
is_at text start (end ∷ ends) (suc at) are lt =
    let there = is_at text end ends at are.2 (omega arith) in
    record { rises = there.rises; boundary = there.boundary; string = there.string }

starts_on_boundary : (text ends : List ℕ) (at : ℕ) → AreEnds text 0 ends → at ≤ length ends → 0 < get_or (0 ∷ ends) at 0
    → IsCharBoundary text (get_or (0 ∷ ends) at 0)
starts_on_boundary text ends zero are le some = absurd (omega arith)
starts_on_boundary text ends (suc at) are le some = (is_at text 0 ends at are (omega arith)).boundary

-- the string at a place lies between these two places of the text
pub record IsBetween (text : List ℕ) (strings : List (List ℕ)) (at first end : ℕ) : Type 0 where
  pub rises : first ≤ end
  pub starts : 0 < first → IsCharBoundary text first
  pub ends : IsCharBoundary text end
  pub string : slice_get strings at ≡ Some (slice_range text first end)

pub is_between : (text ends : List ℕ) (strings : List (List ℕ)) (at first end : ℕ) → AreEnds text 0 ends
    → strings_in text 0 ends ≡ strings → at < length strings → first ≡ get_or (0 ∷ ends) at 0 → slice_get ends at ≡ Some end
    → IsBetween text strings at first end
is_between text ends strings at first end are same lt starts is =
    let lt_ends = within text ends strings at same lt in
    let place = is_at text 0 ends at are lt_ends in
    let ends_so = get_or_from_slice_get ends at end 0 is in
    record {
      rises = rw (starts, ← ends_so) place.rises;
      starts = rw starts (starts_on_boundary text ends at are (omega arith));
      ends = rw (← ends_so) place.boundary;
      string = rw (starts, ← ends_so, ← same) place.string;
    }

start_within : (text : List ℕ) (start : ℕ) (ends : List ℕ) → AreEnds text start ends → start ≤ length text
start_within text start [] are = omega arith
start_within text start (end ∷ ends) are = omega (arith, are.0, start_within text end ends are.2)

pub starts_within : (text : List ℕ) (start : ℕ) (ends : List ℕ) (at : ℕ) → AreEnds text start ends → at ≤ length ends
    → get_or (start ∷ ends) at 0 ≤ length text
starts_within text start ends zero are le = start_within text start ends are
starts_within text start [] (suc at) are le = absurd (omega arith)
starts_within text start (end ∷ ends) (suc at) are le = starts_within text end ends at are.2 (omega arith)

starts_after : (text : List ℕ) (start : ℕ) (ends : List ℕ) (at : ℕ) → AreEnds text start ends → at ≤ length ends
    → start ≤ get_or (start ∷ ends) at 0
starts_after text start ends zero are le = omega arith
starts_after text start [] (suc at) are le = absurd (omega arith)
starts_after text start (end ∷ ends) (suc at) are le =
    omega (arith, are.0, starts_after text end ends at are.2 (omega arith))

-- ---- the front of a text

slice_range-append : (front rest : List ℕ) (a b : ℕ) → a ≤ b → b ≤ length front
    → slice_range (front ++ rest) a b ≡ slice_range front a b
slice_range-append front rest a b le within =
    let first : a ≤ length front = omega arith in
    let second : b - a ≤ length (drop a front) = omega (arith, length-drop a front) in
    rw (drop-append-le a front rest first, take-append-le (b - a) (drop a front) rest second) refl

boundary-append : (front rest : List ℕ) (i : ℕ) → IsUtf8 rest → IsCharBoundary front i
    → IsCharBoundary (front ++ rest) i
boundary-append front rest i utf8 boundary = by (cases_lt i (length front))
  where
    by : (i < length front) ⊎ (length front ≤ i) → IsCharBoundary (front ++ rest) i
    by (inl lt) =
        (omega (arith, length-append front rest), λ _. rw (get_or_append_left front rest 0 i lt) (boundary.1 lt))
    by (inr le) =
        let same : length front ≡ i = omega (arith, boundary.0) in
        subst (IsCharBoundary (front ++ rest)) same (IsCharBoundary-at_seam (front ++ rest) front rest refl utf8)

boundary-front : (front rest : List ℕ) (i : ℕ) → i ≤ length front → IsCharBoundary (front ++ rest) i
    → IsCharBoundary front i
boundary-front front rest i le boundary =
    (le, λ lt. rw (get_or_append_left front rest 0 i lt) at (boundary.1 (omega (arith, length-append front rest))))

-- ---- one more string

pub AreEnds-push : (text string : List ℕ) (start : ℕ) (ends : List ℕ) → IsUtf8 string → AreEnds text start ends
    → AreEnds (text ++ string) start (ends ++ (length text + length string) ∷ [])
AreEnds-push text string start [] utf8 are =
    let whole : length text + length string ≡ length (text ++ string) = sym (length-append text string) in
    (omega arith, (omega arith, λ lt. absurd (omega arith)), whole)
AreEnds-push text string start (end ∷ ends) utf8 are =
    (are.0, boundary-append text string end utf8 are.1, AreEnds-push text string end ends utf8 are.2)

pub strings_in-push : (text string : List ℕ) (start : ℕ) (ends : List ℕ) → AreEnds text start ends
    → strings_in (text ++ string) start (ends ++ (length text + length string) ∷ [])
    ≡ strings_in text start ends ++ string ∷ []
strings_in-push text string start [] are =
    let left : length string ≤ length text + length string - start = omega arith in
    rw (drop_at text string start (sym are), take_all (length text + length string - start) string left) refl
strings_in-push text string start (end ∷ ends) are =
    rw (slice_range-append text string start end are.0 are.1.0, strings_in-push text string end ends are.2) refl

-- ---- the first strings

record IsCut (front : List ℕ) (start : ℕ) (ends : List ℕ) (at : ℕ) (strings : List (List ℕ)) : Type 0 where
  are : AreEnds front start (take at ends)
  same : strings_in front start (take at ends) ≡ take at strings

cut : (front rest : List ℕ) (start : ℕ) (ends : List ℕ) (at : ℕ) → AreEnds (front ++ rest) start ends → at ≤ length ends
    → get_or (start ∷ ends) at 0 ≡ length front → IsCut front start ends at (strings_in (front ++ rest) start ends)
cut front rest start ends zero are le is = record { are = is; same = refl }
cut front rest start [] (suc at) are le is = absurd (omega arith)
cut front rest start (end ∷ ends) (suc at) are le is =
    let later = cut front rest end ends at are.2 (omega arith) is in
    let within : end ≤ length front = omega (arith, starts_after (front ++ rest) end ends at are.2 (omega arith)) in
    record {
      are = (are.0, boundary-front front rest end within are.1, later.are);
      same = rw (slice_range-append front rest start end are.0 within, later.same) refl;
    }

pub splits_at : (text ends : List ℕ) (at : ℕ) → AreEnds text 0 ends → at ≤ length ends
    → IsSplitPoint text (get_or (0 ∷ ends) at 0)
splits_at text ends at are le =
    (starts_within text 0 ends at are le, λ some. (starts_on_boundary text ends at are le some).1)

truncated : (text ends : List ℕ) (at : ℕ) → AreEnds text 0 ends → at ≤ length ends
    → IsCut (take (get_or (0 ∷ ends) at 0) text) 0 ends at (strings_in text 0 ends)
truncated text ends at are le =
    let end = get_or (0 ∷ ends) at 0 in
    let whole : take end text ++ drop end text ≡ text = take-append-drop end text in
    let is : end ≡ length (take end text) = sym (length-take-le end text (starts_within text 0 ends at are le)) in
    let parts : IsCut (take end text) 0 ends at (strings_in (take end text ++ drop end text) 0 ends) =
    cut (take end text) (drop end text) 0 ends at (subst (λ t. AreEnds t 0 ends) (sym whole) are) le is in
    subst (λ t. IsCut (take end text) 0 ends at (strings_in t 0 ends)) whole parts

pub AreEnds-take : (text ends : List ℕ) (at : ℕ) → AreEnds text 0 ends → at ≤ length ends
    → AreEnds (take (get_or (0 ∷ ends) at 0) text) 0 (take at ends)
AreEnds-take text ends at are le = (truncated text ends at are le).are

pub strings_in-take : (text ends : List ℕ) (at : ℕ) → AreEnds text 0 ends → at ≤ length ends
    → strings_in (take (get_or (0 ∷ ends) at 0) text) 0 (take at ends) ≡ take at (strings_in text 0 ends)
strings_in-take text ends at are le = (truncated text ends at are le).same

-- ---- strings as pairs

pub pairs_of-append : (strings more : List (List ℕ)) → ArePairs strings
    → pairs_of (strings ++ more) ≡ pairs_of strings ++ pairs_of more
pairs_of-append [] more are = refl
pairs_of-append (key ∷ []) more are = absurd (omega arith)
pairs_of-append (key ∷ value ∷ strings) more are =
    ap (λ (pairs : List Pair). (key, value) ∷ pairs) (pairs_of-append strings more (omega arith))

pub ArePairs-append : (strings more : List (List ℕ)) → ArePairs strings → ArePairs more → ArePairs (strings ++ more)
ArePairs-append strings more are also = rw (pairs_of-append strings more are)
    (omega (arith, length-append strings more, length-append (pairs_of strings) (pairs_of more)))

pub slice_get-pairs_of : (strings : List (List ℕ)) (at : ℕ) (key value : List ℕ) → slice_get strings (2 * at) ≡ Some key
    → slice_get strings (2 * at + 1) ≡ Some value → slice_get (pairs_of strings) at ≡ Some (key, value)
slice_get-pairs_of [] at key value is_key is_value = absurd cc
slice_get-pairs_of (first ∷ []) zero key value is_key is_value = absurd cc
slice_get-pairs_of (first ∷ []) (suc at) key value is_key is_value =
    let more : 2 * suc at ≡ suc (2 * at + 1) = omega arith in
    let none = rw more at is_key in
    absurd cc
slice_get-pairs_of (first ∷ second ∷ strings) zero key value is_key is_value = cc
slice_get-pairs_of (first ∷ second ∷ strings) (suc at) key value is_key is_value =
    let even : 2 * suc at ≡ suc (suc (2 * at)) = omega arith in
    let odd : 2 * suc at + 1 ≡ suc (suc (2 * at + 1)) = omega arith in
    slice_get-pairs_of strings at key value (rw even at is_key) (rw odd at is_value)
