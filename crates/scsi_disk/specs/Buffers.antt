-- Buffers that are used again.
use Rattle.std.specs.Prelude.{◌≡◌, ◌<◌, ◌≤◌, ℕ, ◌+◌, ◌*◌, ◌&&◌, ◌==◌, Bool, true, false, nat_le, nat_lt, MatchBool, if◌then◌else◌}
use Rattle.std.specs.Prelude.{List, [], ◌∷◌, ◌++◌, length, map, sum, remove, slice_index, EachIndex}
use Rattle.media_block.specs.Blocks.{block_length}
use Rattle.scsi_sense.specs.Given.{headroom, tailroom}
use Rattle.scsi_disk.specs.DiskCommands.{most_given}

-- own: a buffer with more room than this is long, in bytes: with more than a connection keeps for its answers
abbrev pub most_short : ℕ
most_short = 65536

-- own: the room that kept buffers have together, in bytes: that of four of the longest READs, each in 64 pieces
abbrev pub most_room : ℕ
most_room = 4 * (headroom * 64 + most_given + tailroom)

-- own: the room of each buffer that is kept, in bytes, the most of a kind that are kept, and whether more were to be
-- kept than there is room for
pub record Kept : Type 0 where
  pub short : List ℕ
  pub long : List ℕ
  pub short_places : ℕ
  pub long_places : ℕ
  pub is_overfull : Bool

-- own: the room of each of these buffers, which stands beside it
abbrev pub rooms : {X : Type 0} → List (X × ℕ) → List ℕ
rooms kept = map (λ each. each.1) kept

-- own: all the room of buffers is counted, and no more than that is kept
pub record IsWithin (room : ℕ) (short long : List ℕ) : Type 0 where
  pub counted : room ≡ sum short + sum long
  pub few : room ≤ most_room

-- own: no buffer, and no place for any
abbrev pub no_places : Kept
no_places = record { short = []; long = []; short_places = 0; long_places = 0; is_overfull = false }

-- own: no buffer, with places for 256 short ones, and for as many long ones as there may be room for
abbrev pub all_places : Kept
all_places = record { short = []; long = []; short_places = 256; long_places = 64; is_overfull = false }

-- own: none is kept any longer, and the places stay
abbrev pub emptied : Kept → Kept
emptied kept = record kept { short = []; long = []; is_overfull = false }

-- own: whether there is room for a buffer with this much
abbrev pub has_room : ℕ → Kept → Bool
has_room room kept = nat_le (sum kept.short + sum kept.long + room) most_room

-- own: a short buffer is appended to the short ones, if there is a place
abbrev pub with_short : ℕ → Kept → Kept
with_short room kept =
    if nat_lt (length kept.short) kept.short_places then record kept { short = kept.short ++ room ∷ [] } else kept

-- own: a long buffer is appended to the long ones, if there is a place
abbrev pub with_long : ℕ → Kept → Kept
with_long room kept =
    if nat_lt (length kept.long) kept.long_places then record kept { long = kept.long ++ room ∷ [] } else kept

-- own: a buffer with this room is kept among those of its kind, if there are a place and room for it; if there is no room,
-- that is noted
abbrev pub kept_with : ℕ → Kept → Kept
kept_with room kept =
    if has_room room kept then if nat_le room most_short then with_short room kept else with_long room kept
    else record kept { is_overfull = true }

-- own: of these rooms the one at this place is the smallest that is enough, if any is
abbrev pub IsLeast : ℕ → List ℕ → ℕ → Type 0
IsLeast room kept at =
    EachIndex kept (λ k. room ≤ slice_index kept k
    → (room ≤ slice_index kept at) × (slice_index kept at ≤ slice_index kept k))

-- own: the smallest of these rooms that is enough is taken, if any is
pub record TakesLeast (room : ℕ) (old : List ℕ) (had : ℕ) (new : List ℕ) : Type 0 where
  pub at : ℕ
  pub within : at < length old
  pub had_is : had ≡ slice_index old at
  pub least : IsLeast room old at
  pub rest : new ≡ remove old at

-- own: of the short buffers the last is taken
abbrev pub TakesShort : Kept → Kept → Type 0
TakesShort old new = (had : ℕ) × (old ≡ record new { short = new.short ++ had ∷ [] })

-- own: of the long buffers the smallest that has this room is taken, if any has
abbrev pub TakesLong : ℕ → Kept → Kept → Type 0
TakesLong room old new = (had : ℕ) × TakesLeast room old.long had new.long × (new ≡ record old { long = new.long })

-- own: whether a short buffer is taken for this room: if it is short and there is one, or if there is no long one
abbrev pub takes_short : ℕ → Kept → Bool
takes_short room kept = if nat_le room most_short then nat_lt 0 (length kept.short) else length kept.long == 0

-- own: a buffer is taken for this room
abbrev pub Takes : ℕ → Kept → Kept → Type 0
Takes room old new = MatchBool (takes_short room old) (TakesShort old new) (TakesLong room old new)

-- own: a buffer is taken for this room, if any is kept
abbrev pub TakesAny : ℕ → Kept → Kept → Type 0
TakesAny room old new =
    MatchBool (length old.short == 0 && length old.long == 0) (new ≡ old) (Takes room old new)

-- own: a buffer with at least this much room is kept if it has room for a block
abbrev pub GivesBack : ℕ → Kept → Kept → Type 0
GivesBack least old new =
    (room : ℕ) × (least ≤ room) × (new ≡ (if nat_le block_length room then kept_with room old else old))
