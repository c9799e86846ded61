-- Where the data of a command lies.
use Rattle.std.specs.Prelude.{◌<◌, ◌≤◌, ℕ, zero, suc, ◌+◌, ◌*◌, List, [], ◌++◌, length, take, drop, Option, Some, None}
use Rattle.scsi_sense.specs.declared.given.Pieces.{Pieces}

-- RFC 7143 §11.2.1: the room before it for the header of the PDU that carries it
abbrev pub headroom : ℕ
headroom = 48

-- what may be sent after it: the padding (RFC 7143 §11.1), at most 3 bytes, and a SCSI Response with sense data
-- (§11.4), 68
abbrev pub tailroom : ℕ
tailroom = 71

-- own: the data of so many pieces, each but the last of this length, which lie one after another, each after room for
-- a header
abbrev pub gathered : ℕ → ℕ → List ℕ → List ℕ
gathered piece zero items = []
gathered piece (suc count) items = take piece (drop headroom items) ++ gathered piece count (drop (headroom + piece) items)

-- own: so many pieces lie in these bytes, each but the last of this length, and the last with some bytes
pub record IsLaid (piece count : ℕ) (items : List ℕ) : Type 0 where
  pub some : 1 ≤ count
  pub full : count * (headroom + piece) < length items + piece
  pub within : length items ≤ count * (headroom + piece)

-- own: the data, which lies together after room for a header, or in pieces
abbrev pub data_lying : Option Pieces → List ℕ → List ℕ
data_lying None items = drop headroom items
data_lying (Some pieces) items = gathered pieces.length pieces.count items

-- own: if it lies in pieces, they are there
abbrev pub AreThere : Option Pieces → List ℕ → Type 0
AreThere None items = Unit {0}
AreThere (Some pieces) items = IsLaid pieces.length pieces.count items
