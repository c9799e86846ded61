-- Sessions in full feature phase, and targets by name.
use Rattle.std.specs.Prelude.{ℕ, ◌-◌, List, Bool, false, ◌&&◌, ◌==◌, Option, Some, None, bytes_eq, position, slice_index_or, if◌then◌else◌}
use Rattle.scsi_sense.specs.Nexus.{NexusName, same_nexus}
use Rattle.iscsi_login.specs.declared.session_params.SessionParams.{SessionParams}

-- the sessions in full feature phase, by the number of their connection
abbrev pub Live : Type 0
Live = List (Option SessionParams)

-- own: the session of connection c has TSIH c + 1, and TSIH 0 names none (RFC 7143 §11.12.6)
abbrev pub named_by : ℕ → Live → Option SessionParams
named_by handle live = if handle == 0 then None else slice_index_or live (handle - 1) None

-- both sessions are with the same target; a discovery session is with none
abbrev pub is_same_target : Option ℕ → Option ℕ → Bool
is_same_target (Some target) (Some other) = target == other
is_same_target None other = false
is_same_target (Some target) None = false

-- a session of this nexus with this target
abbrev pub is_of : NexusName → Option ℕ → Option SessionParams → Bool
is_of nexus target None = false
is_of nexus target (Some session) = same_nexus session.nexus nexus && is_same_target session.target target

-- the connection of an older session of the same nexus with the same target
unfoldable pub older : SessionParams → Live → Option ℕ
older session live = position (is_of session.nexus session.target) live

-- the position of the target with this name
unfoldable pub target_named : List (List ℕ) → List ℕ → Option ℕ
target_named names name = position (λ other. bytes_eq other name) names
