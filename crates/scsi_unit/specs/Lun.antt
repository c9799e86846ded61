-- Logical unit numbers.
use Rattle.std.specs.Prelude.{ℕ, List, ◌∷◌, Option, Some, None, replicate, slice_index, bytes_eq, if◌then◌else◌}

-- SAM-5 "Single level LUN structure": byte 1 is the number, and all others are zero
unfoldable pub lun_number : List ℕ → Option ℕ
lun_number field = if bytes_eq field (0 ∷ slice_index field 1 ∷ replicate 6 0) then Some (slice_index field 1) else None
