-- What the ports told, call by call: whom a poll named, who came, what was read and written.
use Rattle.std.specs.Prelude.{ℕ, List, [], ◌∷◌, ◌++◌, fold, map, find, Bool, true, false, ◌&&◌, not, ◌==◌, Option, Some, None, if◌then◌else◌}
use Rattle.target_limits.specs.Numbers.{is_number}
use Rattle.iscsi_ports.specs.declared.results.Named.{Named}

-- what a read gave or a write took; an empty piece where it would wait
pub data Carried : Type 0 where
  Bytes : (piece : List ℕ) → Carried
  -- the peer sends nothing more
  End : Carried
  -- the connection failed
  Fault : Carried

pub data Entry : Type 0 where
  -- a listener was made at the address that this text spells, and where it listens, as the system told: the bytes of
  -- its address, and its port
  Listened : (text : List ℕ) → Entry
  Located : (octets : List ℕ) (port : ℕ) → Entry
  -- a poll, and whom it named; none where it failed
  Polled : (named : Option Named) → Entry
  -- a connection came, and has this number; 64 where no number is free
  Open : (c : ℕ) → Entry
  -- an accept met nobody, or failed
  NobodyCame : Entry
  AcceptFailed : Entry
  -- a read, and its room
  Read : (c room : ℕ) (carried : Carried) → Entry
  -- a write, and how many bytes it was offered
  Wrote : (c offered : ℕ) (carried : Carried) → Entry
  Close : (c : ℕ) → Entry

-- ---- what was written

-- on a connection from its Open to its Close
pub record Written : Type 0 where
  pub connection : ℕ
  pub is_closed : Bool
  pub bytes : List ℕ

abbrev pub nothing_written : ℕ → Written
nothing_written c = record { connection = c; is_closed = false; bytes = [] }

-- it has this number, and is not closed
abbrev pub is_on : ℕ → Written → Bool
is_on c row = row.connection == c && not row.is_closed

abbrev pub wrote : ℕ → List ℕ → List Written → List Written
wrote c piece [] = []
wrote c piece (row ∷ rows) = if is_on c row then record row { bytes = row.bytes ++ piece } ∷ rows else row ∷ wrote c piece rows

abbrev pub closed_row : ℕ → Written → Written
closed_row c row = if is_on c row then record row { is_closed = true } else row

abbrev pub written_after : List Written → Entry → List Written
written_after rows (Open c) = if is_number c then rows ++ nothing_written c ∷ [] else rows
written_after rows (Wrote c offered (Bytes piece)) = wrote c piece rows
written_after rows (Close c) = if is_number c then map (closed_row c) rows else rows
written_after rows _ = rows

-- what was written on each connection, in the order in which they were opened
unfoldable pub written : List Entry → List Written
written log = fold written_after [] log

abbrev pub bytes_in : Option Written → List ℕ
bytes_in None = []
bytes_in (Some row) = row.bytes

-- what was written on the connection that is open under this number
unfoldable pub written_on : ℕ → List Entry → List ℕ
written_on c log = bytes_in (find (is_on c) (written log))
