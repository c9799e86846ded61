-- The items of a tape file by their sizes: an item of n bytes takes n and eight more, and a filemark has none.
use Rattle.std.specs.Prelude.{◌≡◌, ℕ, ◌+◌, ◌-◌, ◌*◌, ◌^◌, ◌≤◌, ◌<◌, ◌⊎◌, List, ◌++◌, length, take, drop, reverse, replicate, sum, slice_index}
use Rattle.tape_index.specs.Way.{spaced_to}
use Rattle.tape_index.specs.declared.index.Ahead.{Ahead}
use Rattle.tape_index.specs.declared.index.Alike.{Alike}
use Rattle.tape_index.specs.declared.run.Run.{Run}
use Rattle.tape_index.specs.declared.outcome.Direction.{Direction}
use Rattle.tape_index.specs.declared.outcome.Direction.TheVariants.{Forward, Backward}

-- the size of a filemark
abbrev pub mark_size : ℕ
mark_size = 8

-- the greatest size of an item
abbrev pub most_size : ℕ
most_size = 1048584

-- the abstract value of an index
pub record Items : Type 0 where
  pub sizes : List ℕ
  -- the number of runs it can take before it needs memory
  pub room : ℕ

-- items of this size would lengthen the last run; if there are no items, the last size is 0
abbrev pub Joins : ℕ → List ℕ → Type 0
Joins size sizes = slice_index sizes (length sizes - 1) ≡ size

-- they take no memory
abbrev pub HasRoom : ℕ → Items → Type 0
HasRoom size items = (0 < items.room) ⊎ Joins size items.sizes

-- the last run, or one of no items
pub record IsLast (sizes : List ℕ) (last : Run) : Type 0 where
  pub count : last.count ≡ length sizes
  pub end : last.end ≡ sum sizes
  pub few : length sizes * mark_size ≤ last.end
  pub size : last.size ≡ slice_index sizes (length sizes - 1)

-- the items from one number to another have this size
pub record AreAlike (sizes : List ℕ) (first next size : ℕ) : Type 0 where
  pub is : drop first sizes ≡ replicate (next - first) size ++ drop next sizes
  pub within : next ≤ length sizes

-- one of those has this number
pub record AreAround (sizes : List ℕ) (alike : Alike) (number : ℕ) : Type 0 where
  pub from : alike.first ≤ number
  pub to : number < alike.next
  pub are : AreAlike sizes alike.first alike.next alike.size
  pub end : alike.end ≡ sum (take alike.next sizes)
  pub least : mark_size ≤ alike.size
  pub most : alike.size ≤ most_size

-- the items on the way from a position, the nearest first
abbrev pub sizes_ahead : Direction → ℕ → List ℕ → List ℕ
sizes_ahead Forward from sizes = drop from sizes
sizes_ahead Backward from sizes = reverse (take from sizes)

-- there is a position this many items away
abbrev pub CanMove : Direction → ℕ → ℕ → Type 0
CanMove Forward at many = at + many < 2 ^ 64
CanMove Backward at many = many ≤ at

-- the first of them are of one size
pub record AreAhead (toward : Direction) (at : ℕ) (sizes : List ℕ) (ahead : Ahead) : Type 0 where
  pub some : 0 < ahead.many
  pub is : sizes_ahead toward at sizes ≡ replicate ahead.many ahead.size ++ sizes_ahead toward (spaced_to toward at ahead.many) sizes
  pub many : ahead.many ≤ length (sizes_ahead toward at sizes)
  pub can : CanMove toward at ahead.many
  pub least : mark_size ≤ ahead.size
