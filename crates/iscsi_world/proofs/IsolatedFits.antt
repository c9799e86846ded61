-- What is done to a present life keeps what is true of its place and of its session's target.
use Rattle.std.proofs.Common.{◌≡◌, ℕ, Bool, Some, sym, subst, arith}
use Rattle.iscsi_pdu.specs.declared.answer.Answer.{Answer}
use Rattle.iscsi_login.specs.declared.session_params.SessionParams.{SessionParams}
use Rattle.iscsi_session.specs.Requests.{Past}
use Rattle.iscsi_world.specs.Life.{Life, Closing, ended_in}
use Rattle.iscsi_world.specs.World.{World, is_present, present, changed_first, past_of, begun, with_past}
use Rattle.iscsi_world.proofs.Lives.{present_is}
use Rattle.iscsi_world.proofs.Keeping.{open_life}
use Rattle.iscsi_world.proofs.IsolatedLives.{AllFrom, Selection, HasTarget, Fits, number_of, first_fits}
use Rattle.iscsi_world.proofs.IsolatedWorlds.{Agree}

-- f of the present life of a connection fits where it does
pub Keeps : Selection → (Life → Life) → ℕ → World → Type 0
Keeps g f c w = (life : Life) → present c w ≡ Some life → (k : ℕ) → Fits g k life → Fits g k (f life)

pub fits_changed : (g : Selection) (f : Life → Life) (c : ℕ) (w : World) → Keeps g f c w → AllFrom (Fits g) 0 w.lives
    → AllFrom (Fits g) 0 (changed_first (is_present c) f w.lives)
unfolding Keeps present
fits_changed g f c w keeps fits = first_fits (Fits g) f c 0 w.lives fits keeps

pub keeps_ended : (g : Selection) (c : ℕ) (w : World) → Keeps g (ended_in Closing) c w
unfolding Keeps
keeps_ended g c w = λ life at k fit. record { placed = λ e. fit.placed (open_life c w life at); session = λ p e. absurd cc }

-- f changes neither its phase nor its connection
pub keeps_same : (g : Selection) (f : Life → Life) (c : ℕ) (w : World)
    → ((life : Life) → ((f life).phase ≡ life.phase) × ((f life).connection ≡ life.connection)) → Keeps g f c w
unfolding Keeps
keeps_same g f c w same = grind arith

some_params : (g : Selection) (b : Bool) (p q : SessionParams) → HasTarget g b p.target → Some p ≡ Some q → HasTarget g b q.target
some_params g b p q own e = let same : p ≡ q = cc in subst (λ (r : SessionParams). HasTarget g b r.target) same own

pub keeps_begun : (g : Selection) (session : SessionParams) (answer : Answer) (c : ℕ) (w v : World) → Agree g w v → HasTarget g (g.keeps_on c) session.target
    → Keeps g (begun session answer) c w
unfolding Keeps
keeps_begun g session answer c w v agree own = λ life at k fit. record {
  placed = λ e. fit.placed (open_life c w life at);
  session = λ p e. some_params g (g.keeps k) session p
      (subst (λ (b : Bool). HasTarget g b session.target) (sym (number_of g c k life (present_is c w life at) fit)) own) e;
}

pub keeps_worked : (g : Selection) (c : ℕ) (past then_ : Past) (w : World) → past_of (present c w) ≡ Some past → then_.params ≡ past.params
    → Keeps g (with_past then_) c w
unfolding Keeps
keeps_worked g c past then_ w is same = grind arith
