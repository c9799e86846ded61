-- A connection on which full feature phase has begun, or not.
use Rattle.std.proofs.Common.{◌≡◌, ℕ, Result, OnOk, OnErr, arith}
use Rattle.iscsi_pdu.specs.declared.answer.Answer.{Answer}
use Rattle.iscsi_login.specs.LoginState.{IsTargetBelow}
use Rattle.iscsi_login.specs.Values.{AreInRange}
use Rattle.iscsi_login.specs.declared.session_params.SessionParams.{SessionParams}
use Rattle.iscsi_world.specs.Machine.{LinkState, begun_link, IsWithin}

-- where its target is one of so many, or it is a discovery session
pub begun_within : {T E : Type 0} (r : Result T E) (n : ℕ) (new old : LinkState) (session : SessionParams) (answer : Answer)
    → OnOk r (new ≡ begun_link session answer old) → OnErr r (new ≡ old) → IsTargetBelow n session.target → AreInRange session.values
    → IsWithin n old.phase → IsWithin n new.phase
begun_within r n new old session answer ok err target values was = grind arith
