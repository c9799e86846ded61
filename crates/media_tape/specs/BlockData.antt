-- Where the bytes of blocks stand.
use Rattle.std.specs.Prelude.{ℕ, zero, suc, ◌+◌, List, [], ◌++◌, take, drop}

-- the bytes of `count` records of one length, as they stand in a store
abbrev pub data_in : ℕ → ℕ → List ℕ → List ℕ
data_in zero length bytes = []
data_in (suc count) length bytes = take length (drop 4 bytes) ++ data_in count length (drop (length + 8) bytes)
