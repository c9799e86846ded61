-- What stands on a tape (SSC-4 "Tape model"): records and filemarks, item after item, and how their bytes are laid out.
use Rattle.std.specs.Prelude.{ℕ, zero, suc, ◌+◌, ◌≤◌, ◌<◌, ◌==◌, ◌&&◌, nat_le, List, [], ◌∷◌, ◌++◌, length, take, drop}
use Rattle.std.specs.Prelude.{◌-◌, replicate, flat_map, Bool, Option, Some, None, if◌then◌else◌}
use Rattle.byteorder.specs.Endian.{big_bytes, big_number}

-- profile: the greatest length of a record in bytes
abbrev pub most_bytes : ℕ
most_bytes = 1048576

-- SSC-4 "logical objects": a logical block, here called a record, or a filemark
pub data Item : Type 0 where
  Record : (bytes : List ℕ) → Item
  Filemark : Item

-- own: the bytes of an item: a filemark has none
abbrev pub data_of : Item → List ℕ
data_of (Record bytes) = bytes
data_of Filemark = []

-- own: the item that has these bytes
abbrev pub item_of : List ℕ → Item
item_of [] = Filemark
item_of (byte ∷ bytes) = Record (byte ∷ bytes)

-- profile: a record has a byte at least
abbrev pub Fits : Item → Type 0
Fits (Record bytes) = (0 < length bytes) × (length bytes ≤ most_bytes)
Fits Filemark = Unit {0}

-- profile: an item takes eight bytes more than it has
abbrev pub size : Item → ℕ
size item = length (data_of item) + 8

abbrev pub size_of : List Item → ℕ
size_of [] = 0
size_of (item ∷ items) = size item + size_of items

-- profile: the length in four bytes, the bytes, and the length again
abbrev pub spelled : Item → List ℕ
spelled item = big_bytes 4 (length (data_of item)) ++ (data_of item ++ big_bytes 4 (length (data_of item)))

abbrev pub spelling : List Item → List ℕ
spelling items = flat_map spelled items

-- profile: an item of n bytes is whole at the front of these: n is not above the greatest length of a record, and
-- stands again after them
abbrev pub is_whole : ℕ → List ℕ → Bool
is_whole n bytes = nat_le n most_bytes && (nat_le (n + 8) (length bytes) && (big_number 4 (drop (n + 4) bytes) == n))

-- profile: the length of the item that is whole at the front of these bytes
unfoldable pub front : List ℕ → Option ℕ
front bytes = let n = big_number 4 bytes in if is_whole n bytes then Some n else None

-- own: the items at the front of these bytes, one after the other, at most this many
unfoldable pub items_in : ℕ → List ℕ → List Item
items_in zero bytes = []
items_in (suc most) bytes =
    elim (front bytes) [ None ↦ [] | Some n ↦ item_of (take n (drop 4 bytes)) ∷ items_in most (drop (n + 8) bytes) ]

-- own: all items at the front of these bytes
abbrev pub items_of : List ℕ → List Item
items_of bytes = items_in (length bytes) bytes

-- own: the first offset where no whole item begins
abbrev pub torn_at : List ℕ → ℕ
torn_at bytes = size_of (items_of bytes)

-- profile: bytes that are items and nothing else
abbrev pub is_tape : List ℕ → Bool
is_tape bytes = torn_at bytes == length bytes

-- ---- own: items by their sizes, which a tape knows

-- an item takes eight bytes at least, and no more than the longest record
pub record IsSize (n : ℕ) : Type 0 where
  pub least : 8 ≤ n
  pub most : n ≤ most_bytes + 8

-- this many bytes: the first of these, and then zeros
abbrev pub padded : ℕ → List ℕ → List ℕ
padded n bytes = take n (bytes ++ replicate n 0)

-- items of these sizes, one after the other, with the bytes that stand there
abbrev pub items_sized : List ℕ → List ℕ → List Item
items_sized [] bytes = []
items_sized (n ∷ sizes) bytes = item_of (padded (n - 8) (drop 4 bytes)) ∷ items_sized sizes (drop n bytes)
