-- A unit whose joined nexuses are written as they were.
use Rattle.std.proofs.Common.{◌≡◌, List, ap, ◌∙◌}
use Rattle.scsi_unit.specs.declared.joined.Joined.{Joined}
use Rattle.scsi_unit.specs.State.{UnitState}

pub same_joined : (v u : UnitState) (joined : List Joined) → v ≡ u → joined ≡ v.joined → record v { joined = joined } ≡ u
same_joined v u joined is same = ap (λ (j : List Joined). record v { joined = j }) same ∙ is
