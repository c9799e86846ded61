-- Buffers that are kept, and their rooms.
use Rattle.std.proofs.Common.{◌≡◌, ℕ, ◌+◌, ◌<◌, ◌≤◌, List, Bool, [], ◌∷◌, ◌++◌, length, get_or, true, false}
use Rattle.std.proofs.Common.{sym, subst, arith}
use Rattle.std.specs.Prelude.{MatchBool}
use Rattle.std.proofs.lemmas.List.{map-append, take-map, drop-map, get_or-map}
use borrow.Author.Count.{below_more}
use Rattle.std.specs.List.{remove}
use Rattle.scsi_disk.specs.Buffers.{Kept, rooms, takes_short, Takes, TakesShort, TakesLong, TakesLeast}

-- the room of a buffer among those of all
pub room_at : {X : Type 0} (kept : List (X × ℕ)) (k : ℕ) (other : X × ℕ) → k < length kept
    → get_or (rooms kept) k 0 ≡ (get_or kept k other).1
room_at kept k other within = get_or-map (λ each. each.1) kept k other 0 within

-- the rooms without that of one buffer
pub rooms_without : {X : Type 0} (kept : List (X × ℕ)) (k : ℕ) → rooms (remove kept k) ≡ remove (rooms kept) k
rooms_without kept k = simp (map-append, take-map, drop-map)

-- of the rooms below a place, the one that was found is the smallest that is enough, where any is
abbrev pub IsLeastBelow : ℕ → List ℕ → ℕ → ℕ → Type 0
IsLeastBelow room kept at found =
    (k : ℕ) → k < at → room ≤ get_or kept k 0 → (room ≤ get_or kept found 0) × (get_or kept found 0 ≤ get_or kept k 0)

-- the next suits better
pub least_next : (room : ℕ) (kept : List ℕ) (at found : ℕ) → room ≤ get_or kept at 0
    → (room ≤ get_or kept found 0 → get_or kept at 0 ≤ get_or kept found 0) → IsLeastBelow room kept at found
    → IsLeastBelow room kept (at + 1) at
least_next room kept at found enough smaller before =
    below_more (λ k. room ≤ get_or kept k 0 → (room ≤ get_or kept at 0) × (get_or kept at 0 ≤ get_or kept k 0)) at
    (λ k below has. (enough, let e = before k below has in let s = smaller e.0 in omega arith))
    (λ has. (enough, omega arith))

-- the next suits no better
pub least_still : (room : ℕ) (kept : List ℕ) (at found : ℕ)
    → (room ≤ get_or kept at 0 → (room ≤ get_or kept found 0) × (get_or kept found 0 < get_or kept at 0))
    → IsLeastBelow room kept at found → IsLeastBelow room kept (at + 1) found
least_still room kept at found worse before =
    below_more (λ k. room ≤ get_or kept k 0 → (room ≤ get_or kept found 0) × (get_or kept found 0 ≤ get_or kept k 0)) at
    before (λ has. let is = worse has in (is.0, omega arith))

-- buffers of these rooms, with this many places
abbrev pub kept_as : List ℕ → List ℕ → ℕ → ℕ → Bool → Kept
kept_as short long short_places long_places is_overfull =
    record { short = short; long = long; short_places = short_places; long_places = long_places; is_overfull = is_overfull }

-- the last short buffer was taken
pub taken_short : (room : ℕ) (short long rest : List ℕ) (places long_places left had : ℕ) (overfull : Bool)
    → takes_short room (kept_as short long places long_places overfull) ≡ true → short ≡ rest ++ had ∷ [] → left ≡ places
    → Takes room (kept_as short long places long_places overfull) (kept_as rest long left long_places overfull)
taken_short room short long rest places long_places left had overfull is last same =
    let old = kept_as short long places long_places overfull in
    let new = kept_as rest long left long_places overfull in
    subst (λ b. MatchBool b (TakesShort old new) (TakesLong room old new)) (sym is)
    (had, λ i. kept_as (last i) long (sym same i) long_places overfull)

-- the smallest long buffer that has the room was taken
pub taken_long : (room : ℕ) (short long rest : List ℕ) (places long_places left had : ℕ) (overfull : Bool)
    → takes_short room (kept_as short long places long_places overfull) ≡ false → TakesLeast room long had rest → left ≡ long_places
    → Takes room (kept_as short long places long_places overfull) (kept_as short rest places left overfull)
taken_long room short long rest places long_places left had overfull is taken same =
    let old = kept_as short long places long_places overfull in
    let new = kept_as short rest places left overfull in
    subst (λ b. MatchBool b (TakesShort old new) (TakesLong room old new)) (sym is)
    (had, taken, λ i. kept_as short rest places (same i) overfull)
