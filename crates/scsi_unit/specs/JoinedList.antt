-- The nexuses that are joined to a unit, as its code keeps them.
use Rattle.std.specs.Prelude.{◌≡◌, ℕ, false, List, map, AllPairs}
use Rattle.scsi_sense.specs.Nexus.{NexusName, same_nexus}
use Rattle.scsi_unit.specs.declared.joined.Joined.{Joined}

pub record JoinedState : Type 0 where
  pub items : List Joined
  -- the number for which there is room
  pub room : ℕ

-- the names of these nexuses
abbrev pub nexuses : List Joined → List NexusName
nexuses joined = map (λ j. j.nexus) joined

-- own: no nexus is joined twice
unfoldable pub AreDistinct : List Joined → Type 0
AreDistinct joined = AllPairs (λ a b. same_nexus a b ≡ false) (nexuses joined)
