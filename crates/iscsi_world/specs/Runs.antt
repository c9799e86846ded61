-- A target that runs through a history, and what is kept of each life meanwhile.
use Rattle.std.specs.Prelude.{◌≡◌, ℕ, ◌<◌, List, [], ◌∷◌, ◌++◌, map, Bool, true, false, ◌==◌, Option, Some, None, if◌then◌else◌, slice_index_or, ⊤}
use Rattle.std.specs.List.{list_any}
use Rattle.iscsi_world.specs.History.{Event, Open, Bytes, Gone, History, is_among, connection_limit}
use Rattle.iscsi_world.specs.Life.{Life, is_over, out_of}
use Rattle.iscsi_world.specs.World.{Setting, world}
use Rattle.iscsi_world.specs.Machine.{Machine, IsSoundAt, link_at, is_open_at}
use Rattle.iscsi_world.specs.Isolation.{events_of, AreUnmarked, AreCalm}
use Rattle.iscsi_world.specs.Stands.{Stands}

-- entry c of the table says whether connection c is among these
abbrev pub IsTable : List Bool → List ℕ → Type 0
IsTable table open_connections = (c : ℕ) → slice_index_or table c false ≡ is_among c open_connections

-- an event may come to a target: a free number opens, and an open one brings bytes and ends
abbrev pub MayCome : Machine → Event → Type 0
MayCome machine (Open c) = (c < connection_limit) × (is_open_at machine c ≡ false)
MayCome machine (Bytes c piece) = (c < connection_limit) × (is_open_at machine c ≡ true)
MayCome machine (Gone c) = (c < connection_limit) × (is_open_at machine c ≡ true)

-- exactly these connections are open
pub record AreOpen (machine : Machine) (open_connections : List ℕ) : Type 0 where
  pub tracks : (c : ℕ) → is_open_at machine c ≡ is_among c open_connections
  pub below : (c : ℕ) → is_among c open_connections ≡ true → c < connection_limit

-- the connection of a life until it ends, and from then on the answers of the life
pub record RowState : Type 0 where
  pub connection : Option ℕ
  pub bytes : List ℕ

abbrev pub open_row : ℕ → RowState
open_row c = record { connection = Some c; bytes = [] }

abbrev pub over_row : List ℕ → RowState
over_row bytes = record { connection = None; bytes = bytes }

abbrev pub row_of : Life → RowState
row_of life = if is_over life.phase then over_row (out_of life) else open_row life.connection

-- what waits on its connection is kept, and the row is over
abbrev pub finished_in : Machine → List ℕ → Option ℕ → RowState
finished_in machine bytes None = over_row bytes
finished_in machine bytes (Some c) = over_row (bytes ++ (link_at machine c).waiting)

abbrev pub finished : Machine → RowState → RowState
finished machine row = finished_in machine row.bytes row.connection

abbrev pub is_on : ℕ → Option ℕ → Bool
is_on c None = false
is_on c (Some d) = d == c

-- a connection ends: only a row of it is finished
abbrev pub ended : Machine → ℕ → RowState → RowState
ended machine c row = if is_on c row.connection then finished machine row else row

-- some life of this connection is not over
abbrev pub has : ℕ → List RowState → Bool
has c rows = list_any (λ row. is_on c row.connection) rows

abbrev pub IsFree : Option ℕ → List RowState → Type 0
IsFree None rows = ⊤
IsFree (Some c) rows = has c rows ≡ false

-- no connection has two lives that are not over
abbrev pub AreDistinct : List RowState → Type 0
AreDistinct [] = ⊤
AreDistinct (row ∷ rows) = IsFree row.connection rows × AreDistinct rows

-- a target that ran through a history, and has sent nothing
pub record Runs (s : Setting) (machine : Machine) (rows : List RowState) (open_connections : List ℕ) (history : History) : Type 0 where
  pub stands : Stands s (λ c. 0) machine history
  pub kept : rows ≡ map row_of (world s history).lives
  pub distinct : AreDistinct rows
  -- the connections that are open
  pub tracks : (c : ℕ) → has c rows ≡ is_among c open_connections
  pub below : (c : ℕ) → is_among c open_connections ≡ true → c < connection_limit

-- a target that ran through these events, whatever its stores did: no allocation failed, and no store of a target
-- that is sound
pub record RunsThrough (s : Setting) (machine : Machine) (rows : List RowState) (open_connections : List ℕ) (events : List Event) : Type 0 where
  pub history : History
  pub of : events_of history ≡ events
  pub unmarked : AreUnmarked history
  pub calm : (target : ℕ) → IsSoundAt target machine → AreCalm target history
  pub runs : Runs s machine rows open_connections history
