-- The nexuses that a change of registrations and reservations concerns.
use Rattle.std.specs.Prelude.{ℕ, List, [], ◌∷◌, filter, Bool, true, not, ◌==◌, ◌&&◌, Option, Some, None, if◌then◌else◌}
use Rattle.std.specs.List.{flat_map}
use Rattle.scsi_sense.specs.Nexus.{NexusName, same_nexus}
use Rattle.scsi_sense.specs.declared.condition.Attention.{Attention}
use Rattle.scsi_conflict.specs.declared.registration.Row.{Row}
use Rattle.scsi_reserve.specs.declared.outcome.Due.{Due}
use Rattle.scsi_reserve.specs.declared.news.Others.{Others}
use Rattle.scsi_reserve.specs.declared.news.Others.TheVariants.{All, WithKey}
use Rattle.scsi_reserve.specs.declared.news.News.{News}

-- whether a key is among these
abbrev pub has : Others → ℕ → Bool
has All key = true
has (WithKey other) key = key == other

-- a registration is of a nexus other than this one, and among these
abbrev pub is_chosen : Others → NexusName → Row → Bool
is_chosen others nexus row = not (same_nexus row.nexus nexus) && has others row.key

-- registrations without these
abbrev pub without : Others → NexusName → List Row → List Row
without others nexus rows = filter (λ row. not (is_chosen others nexus row)) rows

-- the attention for a registrant after a change that this nexus made
abbrev pub told_to : News → NexusName → Row → Option Attention
told_to news nexus row =
    if same_nexus row.nexus nexus then None
    else if is_chosen news.others nexus row then Some news.told else news.rest

-- the attention for one nexus
abbrev pub due_to : NexusName → Option Attention → List Due
due_to nexus None = []
due_to nexus (Some attention) = record { nexus = nexus; attention = attention } ∷ []

-- the attentions for registrants, in the order of registering
abbrev pub due_of : News → NexusName → List Row → List Due
due_of news nexus rows = flat_map (λ row. due_to row.nexus (told_to news nexus row)) rows

-- the same attention for all other registrants
abbrev pub to_all : Attention → News
to_all told = record { others = All; told = told; rest = None }
