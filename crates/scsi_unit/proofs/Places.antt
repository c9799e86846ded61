-- Where a nexus stands among those that are joined, and that no nexus is joined twice.
use Rattle.std.proofs.Common.{◌≡◌, ℕ, ◌<◌, ◌++◌, suc, List, [], ◌∷◌, Bool, true, false, map, set, length, get_or, take, drop, Option, Some, None, refl, sym, ap, ◌∙◌, inl, inr, arith}
use Rattle.std.specs.Prelude.{slice_get, bytes_eq, remove, IsTrue, IsSomeAnd, if◌then◌else◌}
use Rattle.std.specs.List.{position_or_len}
use Rattle.std.proofs.lemmas.Bool.{and_parts, cond_below, cases_lt}
use Rattle.std.proofs.lemmas.List.{map-append, get_or-map, length-map, take-map, drop-map}
use Rattle.std.proofs.lemmas.List.Quantifiers.{position-Some, all_pairs_push, all_pairs_remove}
use Rattle.std.proofs.lemmas.List.Sums.{position_or_len_is, fails_before_first}
use Rattle.std.proofs.lemmas.Option.{get_or_from_slice_get, slice_get_within}
use Rattle.std.proofs.lemmas.Slice.Eq.{bytes_eq-Decides}
use Rattle.std.proofs.Math.Seq.{map-set_same}
use Rattle.scsi_sense.specs.Nexus.{NexusName, same_nexus}
use Rattle.scsi_sense.specs.declared.condition.Attention.{Attention}
use Rattle.scsi_reserve.specs.declared.outcome.Due.{Due}
use Rattle.scsi_unit.specs.Joined.{place_of, newly_joined, joined_at, raised_where, raised_for, raised_for_others, raised_in, raised_for_all, raised_due}
use Rattle.scsi_unit.specs.JoinedList.{nexuses, AreDistinct}
use Rattle.scsi_unit.specs.declared.joined.Joined.{Joined}
use Rattle.scsi_unit.proofs.Lists.{cons_same, over_all}

abbrev pub nexus_of : Joined → NexusName
nexus_of j = j.nexus

abbrev pub is_of : NexusName → Joined → Bool
is_of nexus j = same_nexus j.nexus nexus

abbrev Differ : NexusName → NexusName → Type 0
Differ a b = same_nexus a b ≡ false

same_is : (a b : NexusName) → same_nexus a b ≡ true → a ≡ b
same_is a b same =
    let parts = and_parts (bytes_eq a.initiator_name b.initiator_name) (bytes_eq a.isid b.isid) same in
    ap (λ (name : List ℕ). record { initiator_name = name; isid = a.isid }) ((bytes_eq-Decides a.initiator_name b.initiator_name).0 parts.0)
    ∙ ap (λ (isid : List ℕ). record { initiator_name = b.initiator_name; isid = isid }) ((bytes_eq-Decides a.isid b.isid).0 parts.1)

some_there : (o : Option Joined) (P : Joined → Type 0) → IsSomeAnd o P → (j : Joined) × (o ≡ Some j) × P j
some_there None P here = absurd here
some_there (Some j) P here = (j, refl, here)

two_differ : (joined : List Joined) (d : Joined) (k at : ℕ) → AreDistinct joined → k < at → at < length joined
    → Differ (get_or joined k d).nexus (get_or joined at d).nexus
unfolding AreDistinct
two_differ joined d k at distinct before within =
    rw (← get_or-map nexus_of joined k d d.nexus (omega arith), ← get_or-map nexus_of joined at d d.nexus within)
    (distinct k at d.nexus before (omega (arith, length-map joined nexus_of)))

-- a place at which the nexus stands is its first
pub stands_there : (joined : List Joined) (nexus : NexusName) (at : ℕ) → AreDistinct joined
    → IsSomeAnd (slice_get joined at) (λ (j : Joined). IsTrue (is_of nexus j)) → (Some at ≡ place_of nexus joined) × (at < length joined)
stands_there joined nexus at distinct here =
    let there = some_there (slice_get joined at) (λ (j : Joined). IsTrue (is_of nexus j)) here in
    let j = there.0 in
    let is : get_or joined at j ≡ j = get_or_from_slice_get joined at j j there.1 in
    let within : at < length joined = slice_get_within joined at j there.1 in
    let others = λ (k : ℕ) (before : k < at). rw (is, same_is j.nexus nexus there.2) at (two_differ joined j k at distinct before within) in
    let first : position_or_len (is_of nexus) joined ≡ at =
    position_or_len_is (is_of nexus) joined at j (omega arith) others (λ _. rw is there.2) in
    (rw first (cond_below at (length joined) (Some at) None within), within)

pub distinct_alike : (joined others : List Joined) → nexuses others ≡ nexuses joined → AreDistinct joined → AreDistinct others
unfolding AreDistinct
distinct_alike joined others alike distinct = rw alike distinct

-- the same nexuses, written over the list as a slice
pub distinct_over : (joined others : List Joined) (n : ℕ) → n ≡ length joined → nexuses others ≡ nexuses joined → AreDistinct joined
    → AreDistinct (take n (others ++ drop (length others) joined))
distinct_over joined others n long alike distinct =
    let same : n ≡ length others = omega (arith, ap length alike, length-map joined nexus_of, length-map others nexus_of) in
    rw (over_all others joined n same) (distinct_alike joined others alike distinct)

nexuses-map : (f : Joined → Joined) → ((j : Joined) → (f j).nexus ≡ j.nexus) → (joined : List Joined) → nexuses (map f joined) ≡ nexuses joined
nexuses-map f keeps [] = refl
nexuses-map f keeps (j ∷ joined) = cons_same (keeps j) (nexuses-map f keeps joined)

either_nexus : (b : Bool) (j k : Joined) → j.nexus ≡ k.nexus → (if b then j else k).nexus ≡ k.nexus
either_nexus true j k alike = alike
either_nexus false j k alike = refl

pub nexuses-raised_for : (nexus : NexusName) (attention : Attention) (joined : List Joined) → nexuses (raised_for nexus attention joined) ≡ nexuses joined
unfolding raised_for
nexuses-raised_for nexus attention joined = nexuses-map (raised_where nexus true attention) (λ j. either_nexus _ _ j refl) joined

pub nexuses-raised_for_others : (nexus : NexusName) (attention : Attention) (joined : List Joined)
    → nexuses (raised_for_others nexus attention joined) ≡ nexuses joined
unfolding raised_for_others
nexuses-raised_for_others nexus attention joined = nexuses-map (raised_where nexus false attention) (λ j. either_nexus _ _ j refl) joined

pub nexuses-raised_for_all : (attention : Attention) (joined : List Joined) → nexuses (raised_for_all attention joined) ≡ nexuses joined
unfolding raised_for_all
nexuses-raised_for_all attention joined = nexuses-map (raised_in attention) (λ j. refl) joined

pub nexuses-raised_due : (due : List Due) (joined : List Joined) → nexuses (raised_due due joined) ≡ nexuses joined
nexuses-raised_due [] joined = refl
nexuses-raised_due (due ∷ others) joined =
    nexuses-raised_due others (raised_for due.nexus due.attention joined) ∙ nexuses-raised_for due.nexus due.attention joined

-- a nexus that has no place is none of those that are joined
none_is : (joined : List Joined) (nexus : NexusName) → None ≡ place_of nexus joined → (k : ℕ) (d : NexusName) → k < length (nexuses joined)
    → Differ (get_or (nexuses joined) k d) nexus
none_is joined nexus none k d within =
    let first = position_or_len (is_of nexus) joined in
    let here : k < length joined = omega (arith, length-map joined nexus_of) in
    let before : k < first =
    elim (cases_lt first (length joined)) [
      | inl there ↦ absurd (cc (cond_below first (length joined) (Some first) None there))
      | inr past ↦ omega arith
    ] in
    rw (get_or-map nexus_of joined k (newly_joined nexus) d here) (fails_before_first (is_of nexus) joined k (newly_joined nexus) before)

pub distinct_joined : (joined : List Joined) (nexus : NexusName) (place : Option ℕ) → place ≡ place_of nexus joined → AreDistinct joined
    → AreDistinct (joined_at nexus joined place)
unfolding AreDistinct
distinct_joined joined nexus None is distinct = rw map-append (all_pairs_push Differ (nexuses joined) nexus distinct (none_is joined nexus is))
distinct_joined joined nexus (Some at) is distinct =
    let new = newly_joined nexus in
    let there = position-Some (is_of nexus) joined at new (sym is) in
    distinct_alike joined (set joined at new) (map-set_same nexus_of joined at new new (sym (same_is (get_or joined at new).nexus nexus there.1))) distinct

pub distinct_left : (joined : List Joined) (at : ℕ) → at < length joined → AreDistinct joined → AreDistinct (remove joined at)
unfolding AreDistinct
distinct_left joined at within distinct =
    let parts : nexuses (remove joined at) ≡ remove (nexuses joined) at =
    map-append nexus_of (take at joined) (drop (suc at) joined) ∙ rw (take-map nexus_of at joined, drop-map nexus_of (suc at) joined) refl in
    rw parts (all_pairs_remove Differ (nexuses joined) at (omega (arith, length-map joined nexus_of)) distinct)
