-- The unit attention conditions that have not yet been reported to an initiator (SAM-5 "Unit attention condition").
use Rattle.std.specs.Prelude.{ℕ, List, [], ◌∷◌, ◌++◌, length, Bool, ◌==◌, nat_lt, if◌then◌else◌, Option, Some, None}
use Rattle.std.specs.List.{list_any}
use Rattle.scsi_sense.specs.Codes.{attention_number}
use Rattle.scsi_sense.specs.declared.condition.Attention.{Attention}

-- profile: the most conditions that are kept
abbrev pub most_attentions : ℕ
most_attentions = 8

-- whether a condition is established
abbrev pub is_raised : Attention → List Attention → Bool
is_raised attention pending = list_any (λ other. attention_number other == attention_number attention) pending

-- profile: a condition is appended to the others, unless it is established already or there is no room for it
abbrev pub raised : Attention → List Attention → List Attention
raised attention pending =
    if is_raised attention pending then pending
    else if nat_lt (length pending) most_attentions then pending ++ attention ∷ [] else pending

-- the oldest condition
abbrev pub first : List Attention → Option Attention
first [] = None
first (attention ∷ pending) = Some attention
