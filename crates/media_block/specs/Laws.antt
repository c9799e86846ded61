-- Laws of the blocks of a disk.
use Rattle.std.specs.Prelude.{◌≡◌, ℕ, ◌+◌, ◌*◌, ◌≤◌, IsTrue, List, length, slice_range}
use Rattle.std.specs.List.{concat}
use Rattle.media_block.specs.Blocks.{block_length, is_disk, disk_of, data_of}

-- the blocks, joined, are the content
abbrev pub BlocksAreContent : Type 0
BlocksAreContent = (content : List ℕ) → IsTrue (is_disk content) → concat (disk_of content) ≡ content

-- the data of blocks is the slice of the content at their bytes
abbrev pub DataIsSlice : Type 0
DataIsSlice = (content : List ℕ) (first count : ℕ) → IsTrue (is_disk content) → first + count ≤ length (disk_of content)
    → data_of (disk_of content) first count ≡ slice_range content (block_length * first) (block_length * (first + count))
