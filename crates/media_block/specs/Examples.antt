-- Blocks read, replaced and compared, computed.
use Rattle.std.specs.Prelude.{◌≡◌, [], ◌∷◌, ◌++◌, Some, None, true, false, replicate, refl}
use Rattle.media_block.specs.Blocks.{blocks_of, is_disk, disk_of, data_of, replaced, first_difference}

-- two blocks, the second of ones
two_blocks : disk_of (replicate 512 0 ++ replicate 512 1) ≡ replicate 512 0 ∷ replicate 512 1 ∷ []
unfolding blocks_of
two_blocks = refl

-- a disk has whole blocks, and at least one
disks : (is_disk (replicate 1024 0) ≡ true) × (is_disk (replicate 1023 0) ≡ false) × (is_disk [] ≡ false)
disks = (refl, refl, refl)

data_read : data_of ((1 ∷ []) ∷ (2 ∷ []) ∷ (3 ∷ []) ∷ (4 ∷ []) ∷ []) 1 2 ≡ 2 ∷ 3 ∷ []
data_read = refl

no_data : data_of ((1 ∷ []) ∷ []) 1 0 ≡ []
no_data = refl

middle_replaced : replaced 1 ((8 ∷ []) ∷ []) ((1 ∷ []) ∷ (2 ∷ []) ∷ (3 ∷ []) ∷ []) ≡ (1 ∷ []) ∷ (8 ∷ []) ∷ (3 ∷ []) ∷ []
middle_replaced = refl

-- the least index counts
differences : (first_difference (1 ∷ 2 ∷ 3 ∷ 4 ∷ []) (1 ∷ 2 ∷ 8 ∷ 9 ∷ []) ≡ Some 2) × (first_difference (1 ∷ 2 ∷ []) (1 ∷ 2 ∷ []) ≡ None)
differences = (refl, refl)
