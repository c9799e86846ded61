-- The stages of a login (RFC 7143 §6.3).
use Rattle.std.specs.Prelude.{ℕ, ◌==◌, if◌then◌else◌, Option, Some, None}
use Rattle.iscsi_pdu.specs.declared.stage.Stage.{Stage}
use Rattle.iscsi_pdu.specs.declared.stage.Stage.TheVariants.{SecurityNegotiation, OperationalNegotiation, FullFeaturePhase}

-- RFC 7143 §11.12.3
abbrev pub stage_number : Stage → ℕ
stage_number SecurityNegotiation = 0
stage_number OperationalNegotiation = 1
stage_number FullFeaturePhase = 3

-- RFC 7143 §11.12.3: the stage with this number; 2 is reserved
abbrev pub stage_of : ℕ → Option Stage
stage_of n =
    if n == 0 then Some SecurityNegotiation
    else if n == 1 then Some OperationalNegotiation
    else if n == 3 then Some FullFeaturePhase
    else None
