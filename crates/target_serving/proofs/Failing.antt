-- Serving that does not begin, or that a fault of the loop ends.
use Rattle.std.proofs.Common.{◌≡◌, inl, inr, ℕ, List, ◌++◌, Bool, Option, Result, Ok, Err, refl, sym, ap, ◌∙◌}
use Rattle.std.specs.Prelude.{IsErrAnd}
use Rattle.std.specs.Io.KnownBytes.{Appends}
use Rattle.iscsi_target.specs.Machine.{Machine}
use Rattle.iscsi_ports.specs.Log.{Entry}
use Rattle.iscsi_serve.specs.declared.fault.ServeFault.{ServeFault}
use Rattle.target_replay.specs.declared.fault.ReplayFault.{ReplayFault}
use Rattle.target_replay.specs.declared.fault.ReplayFault.TheVariants as replays
use Rattle.target_serving.specs.declared.fault.Fault.{Fault}
use Rattle.target_serving.specs.declared.fault.Fault.TheVariants as faults
use Rattle.target_serving.specs.Fault.{replay_fault}
use Rattle.target_serving.specs.Serve.{HasServed, Serves}

pub fails_to_print : (line : List ℕ) (count : ℕ) (tells : Bool) (log : List Entry) (target : Machine) (w0 w1 : Option (List ℕ))
    (result : Result (Unit {0}) Fault) (fault : ReplayFault) (text : List ℕ)
    → IsErrAnd result (λ seen. seen ≡ replay_fault fault) → fault ≡ replays.Output → text ≡ line
    → (part : List ℕ) × (unprinted : List ℕ) × (text ≡ part ++ unprinted) × Appends w0 w1 part → Serves line count tells log log target target w0 w1 result
fails_to_print line count tells log target w0 w1 (Ok end) fault text told output same cut = absurd told
fails_to_print line count tells log target w0 w1 (Err seen) fault text told output same cut =
    inl (inr (told ∙ ap replay_fault output, (cut.0, cut.1, sym same ∙ cut.2, cut.3)), refl, refl)

pub serving_fails : (line : List ℕ) (count : ℕ) (tells : Bool) (log log_then : List Entry) (target target_then : Machine) (w0 w1 : Option (List ℕ))
    (result : Result (Unit {0}) Fault) (fault : ServeFault)
    → IsErrAnd result (λ seen. seen ≡ faults.Socket) → HasServed line count tells log log_then target target_then w0 w1 (Err fault)
    → Serves line count tells log log_then target target_then w0 w1 result
serving_fails line count tells log log_then target target_then w0 w1 (Ok end) fault told served = absurd told
serving_fails line count tells log log_then target target_then w0 w1 (Err seen) fault told served = inr (Err fault, ap (λ (f : Fault). Err f) told, served)
