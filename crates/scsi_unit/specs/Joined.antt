-- The nexuses that are joined to a unit, and the unit attentions pending for each.
use Rattle.std.specs.Prelude.{ℕ, Bool, true, false, not, List, [], ◌∷◌, ◌++◌, map, remove, position, Option, Some, None, slice_get, slice_set, if◌then◌else◌}
use Rattle.scsi_sense.specs.Nexus.{NexusName, same_nexus}
use Rattle.scsi_sense.specs.Attentions.{raised}
use Rattle.scsi_sense.specs.declared.condition.Attention.{Attention}
use Rattle.scsi_sense.specs.declared.condition.Attention.TheVariants.{PowerOnOrReset}
use Rattle.scsi_reserve.specs.declared.outcome.Due.{Due}
use Rattle.scsi_unit.specs.declared.joined.Joined.{Joined}

-- the place of a nexus among those that are joined
abbrev pub place_of : NexusName → List Joined → Option ℕ
place_of nexus joined = position (λ j. same_nexus j.nexus nexus) joined

-- SAM-5 "Power on, reset, or bus device reset occurred"
abbrev pub newly_joined : NexusName → Joined
newly_joined nexus = record { nexus = nexus; attentions = PowerOnOrReset ∷ [] }

abbrev pub joined_at : NexusName → List Joined → Option ℕ → List Joined
joined_at nexus joined None = joined ++ newly_joined nexus ∷ []
joined_at nexus joined (Some at) = slice_set joined at (newly_joined nexus)

-- own: for a nexus that joins the power-on attention is pending, and no other, even if it was joined
abbrev pub with_nexus : NexusName → List Joined → List Joined
with_nexus nexus joined = joined_at nexus joined (place_of nexus joined)

abbrev pub left_at : List Joined → Option ℕ → List Joined
left_at joined None = joined
left_at joined (Some at) = remove joined at

-- own: a nexus that leaves loses its attentions
abbrev pub without_nexus : NexusName → List Joined → List Joined
without_nexus nexus joined = left_at joined (place_of nexus joined)

abbrev pub told_of : List Joined → ℕ → Joined → List Attention → List Joined × Option Attention
told_of joined at j [] = (joined, None)
told_of joined at j (attention ∷ attentions) = (slice_set joined at (record j { attentions = attentions }), Some attention)

abbrev pub told_at : List Joined → ℕ → Option Joined → List Joined × Option Attention
told_at joined at None = (joined, None)
told_at joined at (Some j) = told_of joined at j j.attentions

abbrev pub told_in : List Joined → Option ℕ → List Joined × Option Attention
told_in joined None = (joined, None)
told_in joined (Some at) = told_at joined at (slice_get joined at)

-- SAM-5 "Unit attention condition": the first that is pending for a nexus, which is then cleared
unfoldable pub told : NexusName → List Joined → List Joined × Option Attention
told nexus joined = told_in joined (place_of nexus joined)

-- the attention is established for one that is joined, if it is this nexus, or another
abbrev pub raised_where : NexusName → Bool → Attention → Joined → Joined
raised_where nexus is_same attention j =
    if (if is_same then same_nexus j.nexus nexus else not (same_nexus j.nexus nexus)) then record j { attentions = raised attention j.attentions } else j

-- SAM-5 "Unit attention condition": established for this nexus
unfoldable pub raised_for : NexusName → Attention → List Joined → List Joined
raised_for nexus attention joined = map (raised_where nexus true attention) joined

-- SAM-5 "Unit attention condition": established for all but the nexus whose command caused it
unfoldable pub raised_for_others : NexusName → Attention → List Joined → List Joined
raised_for_others nexus attention joined = map (raised_where nexus false attention) joined

abbrev pub raised_in : Attention → Joined → Joined
raised_in attention j = record j { attentions = raised attention j.attentions }

-- SAM-5 "Unit attention condition": established for every nexus that is joined
unfoldable pub raised_for_all : Attention → List Joined → List Joined
raised_for_all attention joined = map (raised_in attention) joined

-- SAM-5 "Unit attention condition": established for each of these nexuses its own; not for one that is not joined
abbrev pub raised_due : List Due → List Joined → List Joined
raised_due [] joined = joined
raised_due (due ∷ others) joined = raised_due others (raised_for due.nexus due.attention joined)
