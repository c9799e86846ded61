-- A call of the system that is made again where a signal interrupts it.
use Rattle.std.specs.Prelude.{◌≡◌, ℕ, ◌-◌, ◌^◌, Bool, true, false, List, ◌∷◌, ◌++◌, replicate, Result, MatchResult}
use Rattle.media_store.specs.Calls.{FileCall, GaveUp}

-- own: the last of its tries so, and all before were interrupted
pub record HasTried (interrupted last : FileCall) (old new : List FileCall) : Type 0 where
  pub times : ℕ
  pub calls : new ≡ last ∷ (replicate times interrupted ++ old)

-- own: a try failed, and no signal interrupted that one; or it was given up after 2^64 - 1 tries, all interrupted. A
-- try that failed is noted by whether it was interrupted
pub data HasFailed (note : Bool → FileCall) (old new : List FileCall) : Type 0 where
  Refused : (tried : HasTried (note true) (note false) old new) → HasFailed note old new
  GivenUp : (tried : HasTried (note true) GaveUp old new) (all : tried.times ≡ 2 ^ 64 - 1) → HasFailed note old new

-- own: what a result says of the tries
abbrev pub Tries : {T E : Type 0} → (T → FileCall) → (Bool → FileCall) → Result T E → List FileCall → List FileCall → Type 0
Tries done note result old new =
    MatchResult result (λ value. HasTried (note true) (done value) old new) (λ _. HasFailed note old new)
