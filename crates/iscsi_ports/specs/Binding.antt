-- Why an address is not listened on, by the calls for it.
use Rattle.std.specs.Prelude.{◌≡◌, ◌⊎◌, ℕ, List, [], ◌∷◌}
use Rattle.std.specs.Net.Grammar.{IsSocketText}
use Rattle.std.specs.declared.net.socket_addr.SocketAddr.{SocketAddr}
use Rattle.call_record.specs.Noted.{Noted}
use Rattle.iscsi_ports.specs.declared.bind_fault.BindFault.{BindFault}
use Rattle.iscsi_ports.specs.declared.bind_fault.BindFault.TheVariants as faults

-- own: the note that the system made no listener at the address that a text spells
abbrev pub not_bound : List ℕ → Noted
not_bound text = record { numbers = 0 ∷ []; bytes = text; flags = [] }

-- own: the note that the system did not tell where it listens
abbrev pub not_located : Noted
not_located = record { numbers = 1 ∷ []; bytes = []; flags = [] }

-- own: a text spells no address, and nothing was called; or a call for the listener failed, which is noted
abbrev pub IsUnbound : List ℕ → (old new : List Noted) → Type 0
IsUnbound text old new = (((address : SocketAddr) → ¬ (IsSocketText text address)) × (new ≡ old)) ⊎ (new ≡ not_bound text ∷ old)

-- own: why there are no ports
abbrev pub ExplainsFault : List ℕ → (old new : List Noted) → BindFault → Type 0
ExplainsFault text old new (faults.Socket code) = IsUnbound text old new
ExplainsFault text old new faults.Memory = Unit {0}
