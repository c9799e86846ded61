-- The keys of pairs in a digital search tree (Knuth, TAOCP 6.3): node n has the key of pair n, and only links are
-- stored.
use Rattle.std.specs.Prelude.{◌≡◌, ◌<◌, ◌≤◌, ℕ, zero, suc, ◌+◌, ◌*◌, ◌/◌, ◌%◌, ◌^◌, List, [], ◌∷◌, Bool, true, false, Some, length, take, bytes_eq, slice_get, slice_index_or, map, codes, refl}
use Rattle.iscsi_text.specs.Pairs.{Pair, value_of}

-- own: the bit that the walk of a key follows at a depth, from the lowest of the first byte on, and 0 after its end
unfoldable pub bit_at : List ℕ → ℕ → ℕ
bit_at key depth = slice_index_or key (depth / 8) 0 / 2 ^ (depth % 8) % 2

-- `A` is 0x41, and a zero byte comes after it
bits : map (bit_at (codes "A")) (0 ∷ 1 ∷ 5 ∷ 6 ∷ 7 ∷ 8 ∷ []) ≡ 1 ∷ 0 ∷ 0 ∷ 1 ∷ 0 ∷ 0 ∷ []
unfolding bit_at
bits = refl

-- own: a node has two links, to the child where a key goes on with a 0 bit and to the one for a 1 bit
abbrev pub slot_of : List ℕ → ℕ → ℕ → ℕ
slot_of key depth node = 2 * node + bit_at key depth

-- own: the pair of a node has this key, or another
pub record IsKeyed (pairs : List Pair) (key : List ℕ) (node : ℕ) (is_same : Bool) : Type 0 where
  pub pair : Pair
  pub stands : slice_get pairs node ≡ Some pair
  pub tests : bytes_eq pair.0 key ≡ is_same

-- own: the walk of a key leads in this many steps from one node to another, which has the key; a link of 0 leads
-- nowhere
abbrev pub Leads : List ℕ → List Pair → List ℕ → ℕ → ℕ → ℕ → ℕ → Type 0
Leads links pairs key zero depth from to = (from ≡ to) × IsKeyed pairs key from true
Leads links pairs key (suc steps) depth from to =
    (next : ℕ) × IsKeyed pairs key from false × (slice_get links (slot_of key depth from) ≡ Some next) × (0 < next)
    × Leads links pairs key steps (depth + 1) next to

-- own: the walk of a key from the root ends at a node that has it
abbrev pub EndsAt : List ℕ → List Pair → List ℕ → ℕ → Type 0
EndsAt links pairs key node = (steps : ℕ) × Leads links pairs key steps 0 0 node

-- own: the walk of a key ends at one of the first `count` pairs, and there it has this value
pub record IsPlaced (links : List ℕ) (pairs : List Pair) (count : ℕ) (key value : List ℕ) : Type 0 where
  pub place : ℕ
  pub ends : EndsAt links pairs key place
  pub within : place < count
  pub stands : slice_get pairs place ≡ Some (key, value)

-- own: each key of the first `count` pairs is found with its value
abbrev pub TellsPlaces : List ℕ → List Pair → ℕ → Type 0
TellsPlaces links pairs count =
    (key value : List ℕ) → value_of key (take count pairs) ≡ Some value → IsPlaced links pairs count key value

-- own: the tree has these pairs and no more
pub record IsTreeOf (links : List ℕ) (pairs : List Pair) : Type 0 where
  pub size : length links ≡ 2 * length pairs
  pub tells : TellsPlaces links pairs (length pairs)

-- own: links lead to greater nodes, which have links themselves, so each walk ends
abbrev pub LeadsOn : List ℕ → Type 0
LeadsOn links =
    (slot next : ℕ) → slice_get links slot ≡ Some next → 0 < next → (slot < 2 * next) × (2 * next + 1 < length links)

-- own: each child that was there is still there
abbrev pub KeepsChildren : List ℕ → List ℕ → Type 0
KeepsChildren old new = (slot next : ℕ) → slice_get old slot ≡ Some next → 0 < next → slice_get new slot ≡ Some next

-- own: a walk of a key ends at this free slot; after a node with the key is linked there, it ends at that node
pub record IsFree (links : List ℕ) (pairs : List Pair) (key : List ℕ) (slot : ℕ) : Type 0 where
  pub node : ℕ
  pub within : (2 * node + 1 < length links) × (slot ≤ 2 * node + 1)
  pub other : IsKeyed pairs key node false
  pub free : slice_get links slot ≡ Some 0
  pub ends : (new : List ℕ) (next : ℕ) → KeepsChildren links new → slice_get new slot ≡ Some next → 0 < next
      → IsKeyed pairs key next true → EndsAt new pairs key next
