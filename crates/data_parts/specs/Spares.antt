-- Buffers in which data came, kept for reuse.
use Rattle.std.specs.Prelude.{◌≡◌, ◌⊎◌, ℕ, ◌+◌, ◌*◌, ◌-◌, ◌≤◌, ◌==◌, nat_lt, List, length, Bool, true, false, if◌then◌else◌, vec_capacity}
use Rattle.std.specs.Global.{Vec}
use Rattle.std.specs.List.{All}

-- own: the capacity of a small buffer, in bytes: for a block of most file systems, and a header (RFC 7143 §11.2.1)
abbrev pub small_capacity : ℕ
small_capacity = 4144

-- own: that of a short one: for as much data as usually comes unsolicited, and a header
abbrev pub short_capacity : ℕ
short_capacity = 65584

-- own: that of a long one: for the most data that one PDU brings, and a header
abbrev pub long_capacity : ℕ
long_capacity = 262192

-- own: how many buffers of each kind are kept, and whether more were to be kept
pub record Spares : Type 0 where
  pub smalls : ℕ
  pub shorts : ℕ
  pub longs : ℕ
  pub is_overfull : Bool

abbrev pub no_spares : Spares
no_spares = record { smalls = 0; shorts = 0; longs = 0; is_overfull = false }

-- own: how many of each kind are kept at most
abbrev pub most_smalls : ℕ
most_smalls = 64

abbrev pub most_shorts : ℕ
most_shorts = 31

abbrev pub most_longs : ℕ
most_longs = 8

-- own: the capacity of all that are kept, in bytes, and the most that it is
abbrev pub capacity_of : Spares → ℕ
capacity_of spares = small_capacity * spares.smalls + (short_capacity * spares.shorts + long_capacity * spares.longs)

abbrev pub most_capacity : ℕ
most_capacity = 4395856

-- own: these buffers have this capacity, and are no more than this
pub record AreOfKind (capacity most : ℕ) (buffers : List (Vec ℕ)) : Type 0 where
  pub each : All (λ buffer. vec_capacity buffer ≡ capacity) buffers
  pub few : length buffers ≤ most

-- own: the capacity of a buffer has the room, and is less than twice as much
abbrev pub suits : ℕ → ℕ → Bool
suits capacity room = if nat_lt capacity room then false else nat_lt capacity (2 * room)

-- own: the capacity of the buffer that is taken for this room
abbrev pub capacity_for : ℕ → ℕ
capacity_for room =
    if suits small_capacity room then small_capacity
    else if suits short_capacity room then short_capacity
    else if suits long_capacity room then long_capacity else room

-- own: whether a buffer of this capacity is kept
abbrev pub has_kept : ℕ → Spares → Bool
has_kept capacity spares =
    if capacity == small_capacity then nat_lt 0 spares.smalls else if capacity == short_capacity then nat_lt 0 spares.shorts
    else if capacity == long_capacity then nat_lt 0 spares.longs else false

-- own: one buffer of this capacity fewer, if one is kept
abbrev pub without_one : ℕ → Spares → Spares
without_one capacity spares =
    if capacity == small_capacity then record spares { smalls = spares.smalls - 1 }
    else if capacity == short_capacity then record spares { shorts = spares.shorts - 1 }
    else if capacity == long_capacity then record spares { longs = spares.longs - 1 } else spares

-- own: one buffer of this capacity more, if there is a place for it
abbrev pub with_one : ℕ → Spares → Spares
with_one capacity spares =
    if capacity == small_capacity then
    if nat_lt spares.smalls most_smalls then record spares { smalls = spares.smalls + 1 } else record spares { is_overfull = true }
    else if capacity == short_capacity then
    if nat_lt spares.shorts most_shorts then record spares { shorts = spares.shorts + 1 } else record spares { is_overfull = true }
    else if capacity == long_capacity then
    if nat_lt spares.longs most_longs then record spares { longs = spares.longs + 1 } else record spares { is_overfull = true }
    else spares

-- own: whether there is a place for a buffer of this capacity
abbrev pub has_place : ℕ → Spares → Bool
has_place capacity spares =
    if capacity == small_capacity then nat_lt spares.smalls most_smalls
    else if capacity == short_capacity then nat_lt spares.shorts most_shorts
    else if capacity == long_capacity then nat_lt spares.longs most_longs else false

-- own: a buffer of this capacity is kept, if there is a place for it, or is not since an allocation failed
abbrev pub MayKeep : ℕ → Spares → Spares → Type 0
MayKeep capacity old new = (new ≡ with_one capacity old) ⊎ ((has_place capacity old ≡ true) × (new ≡ old))
