-- A disk as a list of blocks (SBC-3 "Logical blocks"), and what commands do to it.
use Rattle.std.specs.Prelude.{◌≡◌, ℕ, zero, suc, ◌+◌, ◌*◌, ◌≤◌, ◌/◌, ◌%◌, List, [], ◌∷◌, ◌++◌, length, take, drop, Bool, ◌==◌, ◌&&◌, ◌<◌, nat_lt, Option, Some, None, option_map, slice_range, if◌then◌else◌, IsTrue, Result, IsOk, IfOk, IfSome}
use Rattle.std.specs.List.{concat}
use Rattle.media_store.specs.Failures.{counted}

-- profile: the length of a block in bytes
abbrev pub block_length : ℕ
block_length = 512

-- own: the first `count` blocks of a content
unfoldable pub blocks_of : ℕ → List ℕ → List (List ℕ)
blocks_of zero content = []
blocks_of (suc count) content = take block_length content ∷ blocks_of count (drop block_length content)

-- profile: a disk has a positive number of whole blocks
abbrev pub is_disk : List ℕ → Bool
is_disk content = nat_lt 0 (length content) && (length content % block_length == 0)

-- own: all blocks of a content
abbrev pub disk_of : List ℕ → List (List ℕ)
disk_of content = blocks_of (length content / block_length) content

-- SBC-3 "READ (10) command": the data of `count` blocks, beginning with number `first`
abbrev pub data_of : List (List ℕ) → ℕ → ℕ → List ℕ
data_of blocks first count = concat (slice_range blocks first (first + count))

-- own: the data of `count` blocks has the length of `count` blocks
abbrev pub AreWhole : List (List ℕ) → Type 0
AreWhole blocks = (first count : ℕ) → first + count ≤ length blocks → length (data_of blocks first count) ≡ block_length * count

-- SBC-3 "WRITE (10) command": other blocks in the place of as many, beginning with number `first`
abbrev pub replaced : ℕ → List (List ℕ) → List (List ℕ) → List (List ℕ)
replaced first others blocks = take first blocks ++ (others ++ drop (first + length others) blocks)

-- SBC-3 "COMPARE AND WRITE command": the least index at which bytes differ
abbrev pub first_difference : List ℕ → List ℕ → Option ℕ
first_difference [] others = None
first_difference (byte ∷ bytes) [] = None
first_difference (byte ∷ bytes) (other ∷ others) = if byte == other then option_map (λ at. at + 1) (first_difference bytes others) else Some 0

-- own: the blocks outside a range are unchanged
pub record KeepsOthers (first count : ℕ) (old new : List (List ℕ)) : Type 0 where
  pub before : take first new ≡ take first old
  pub behind : drop (first + count) new ≡ drop (first + count) old

-- own: the state of a disk, as contracts see it
pub record DiskState : Type 0 where
  pub blocks : List (List ℕ)
  -- those of its store
  pub synced : Bool
  pub failures : ℕ
  pub honest : Bool
  pub steady : Bool

-- own: a comparison of bytes with as many blocks only reads, and returns the least index at which they differ
pub record HasCompared {E : Type 0} (first count : ℕ) (bytes : List ℕ) (result : Result (Option ℕ) E) (old new : DiskState) : Type 0 where
  pub compared : IfOk result (λ at. IsTrue new.honest → at ≡ first_difference (data_of old.blocks first count) bytes)
  pub within : IfOk result (λ at. IfSome at (λ n. n < block_length * count))
  pub none : count ≡ 0 → IsOk result
  pub back : IsTrue new.honest → IsTrue old.honest
  pub disk : new ≡ record old { failures = counted result old.failures; honest = new.honest }
  pub succeeds : IsTrue old.steady → IsTrue old.honest → IsOk result × (new ≡ old)
