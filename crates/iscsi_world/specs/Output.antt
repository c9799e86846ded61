-- The bytes that the target answers, and what its units keep.
use Rattle.std.specs.Prelude.{ℕ, List, [], map, Option, Some, None, slice_index_or}
use Rattle.iscsi_world.specs.History.{History}
use Rattle.iscsi_world.specs.Life.{Life, out_of}
use Rattle.iscsi_world.specs.World.{Setting, world}
use Rattle.scsi_unit.specs.Medium.{KeptState, kept_of}
use Rattle.scsi_unit.specs.Units.{UnitStates}

-- the answers of a connection's present life
abbrev pub out_now : Option Life → List ℕ
out_now None = []
out_now (Some life) = out_of life

-- the answers of each life, one text for each Open in order
unfoldable pub outputs : Setting → History → List (List ℕ)
outputs s history = map out_of (world s history).lives

-- what a target's units keep, in order: their media, registrations and reservation
abbrev pub media_in : List UnitStates → ℕ → List KeptState
media_in units target = map kept_of (slice_index_or units target [])

abbrev pub media : Setting → History → ℕ → List KeptState
media s history target = media_in (world s history).units target
