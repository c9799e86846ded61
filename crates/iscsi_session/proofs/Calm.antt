-- Where no store of a target failed, its sessions do what they do where none failed at all.
use Rattle.std.proofs.Common.{◌≡◌, ℕ, List, [], ◌∷◌, Bool, Some, refl, arith}
use Rattle.std.specs.Prelude.{drop}
use Rattle.iscsi_pdu.specs.Frames.{Frame}
use Rattle.iscsi_session.specs.Comings.{Coming, lend, IsCalm}
use Rattle.iscsi_session.specs.Steps.{Step, Work, judge, act, ask, tell, finish, served, settled}
use Rattle.iscsi_session.proofs.Steps.{served_keeps, settled_keeps, served_alike, settled_alike}

-- ---- how commands come out

pub calm_behind : (target : ℕ) (comings : List Coming) → IsCalm target comings → IsCalm target (drop 1 comings)
calm_behind target [] calm = tt
calm_behind target (coming ∷ more) calm = calm.1

-- ---- what each step keeps, all keep

-- the commands that come out are calm for a target
abbrev pub CalmFor : ℕ → Work → Type 0
CalmFor target work = IsCalm target work.units.comings

pub calm_served : (target : ℕ) (fails : Step → Bool) (place : ℕ) (frame : Frame) (work : Work) → CalmFor target work
    → CalmFor target (served fails place frame work)
unfolding judge act ask tell
calm_served target fails place frame work calm =
    served_keeps (CalmFor target) (λ step on w ok. ok) fails place frame work (λ w ok. ok) (λ w k rest is ok. ok) (λ w k rest is ok. ok)
    (λ w k rest is ok. ok) calm

pub calm_settled : (target : ℕ) (fails : Step → Bool) (place : ℕ) (work : Work) → CalmFor target work → CalmFor target (settled fails place work)
unfolding finish
calm_settled target fails place work calm =
    settled_keeps (CalmFor target) (λ step on w ok. ok) fails place work (λ w k rest is ok. calm_behind target w.units.comings ok) calm

-- ---- without what is said of how commands come out

abbrev pub quiet : Work → Work
quiet work = record work { units = lend work.units.states [] }

pub quiet_served : (fails : Step → Bool) (place : ℕ) (frame : Frame) (work : Work)
    → served fails place frame (quiet work) ≡ quiet (served fails place frame work)
quiet_served fails place frame work =
    served_alike (λ units. lend units.states []) (λ units. refl) fails fails place frame work refl (λ k. refl) refl refl

-- a session of a target of which no store failed
pub record IsCalmAt (target : ℕ) (work : Work) : Type 0 where
  pub calm : CalmFor target work
  pub own : work.past.params.target ≡ Some target

quiet_finish : (target k : ℕ) (work : Work) → IsCalmAt target work → finish k (quiet work) ≡ quiet (finish k work)
unfolding finish
quiet_finish target k work calm = grind arith

pub quiet_settled : (target : ℕ) (fails : Step → Bool) (place : ℕ) (work : Work) → IsCalmAt target work
    → settled fails place (quiet work) ≡ quiet (settled fails place work)
unfolding finish
quiet_settled target fails place work calm =
    settled_alike (λ units. lend units.states []) fails fails (IsCalmAt target) (λ step on w ok. record { calm = ok.calm; own = ok.own }) place work
    (λ k. refl) (λ k w ok. record { calm = calm_behind target w.units.comings ok.calm; own = ok.own }) (quiet_finish target) calm
