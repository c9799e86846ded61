-- A life names one of the targets, or none.
use Rattle.std.proofs.Common.{◌≡◌, ℕ, ◌+◌, ◌<◌, List, [], ◌∷◌, length, Bool, cond, Option, Some, None, arith}
use Rattle.std.specs.Prelude.{bytes_eq}
use Rattle.std.specs.List.{fold}
use Rattle.std.proofs.lemmas.List.Quantifiers.{position-Some}
use Rattle.iscsi_pdu.specs.Frames.{Frame}
use Rattle.iscsi_text.specs.Pairs.{Pair}
use Rattle.iscsi_login.specs.Directory.{KnownTargets}
use Rattle.iscsi_login.specs.LoginState.{LoginState, new_login}
use Rattle.iscsi_login.specs.Session.{target_named}
use Rattle.iscsi_login.specs.Rules.{is_normal, target_asked, asked_for}
use Rattle.iscsi_login.specs.Login.{advanced, remembered}
use Rattle.iscsi_login.specs.declared.requested_session.RequestedSession.{RequestedSession}
use Rattle.iscsi_world.specs.Life.{Life}
use Rattle.iscsi_world.specs.Isolation.{named_in}
use Rattle.iscsi_world.proofs.IsolatedLogin.{target_of, advanced_session, heard_session}

-- the target that is asked for, where there is one, is one of so many
Below : ℕ → Option RequestedSession → Type 0
Below count o = (t : ℕ) → target_of o ≡ Some t → t < count

named_below : (names : List (List ℕ)) (name : List ℕ) (t : ℕ) → target_named names name ≡ Some t → t < length names
unfolding target_named
named_below names name t e = (position-Some (λ other. bytes_eq other name) names t [] e).0

normal_below : (b : Bool) (names : List (List ℕ)) (name : List ℕ) (t : ℕ) → cond b (target_named names name) None ≡ Some t → t < length names
normal_below b names name t e = grind (arith, named_below)

asked_below : (directory : KnownTargets) (header : List ℕ) (pairs : List Pair) → Below (length directory.names) (Some (asked_for directory header pairs))
unfolding Below asked_for target_asked
asked_below directory header pairs = λ t e. normal_below (is_normal pairs) directory.names _ t e

advanced_below : (directory : KnownTargets) (login : LoginState) (request : Frame) → Below (length directory.names) login.session
    → Below (length directory.names) (advanced directory login request).session
advanced_below directory login request below = grind (arith, advanced_session, heard_session, asked_below)

all_below : (directory : KnownTargets) (login : LoginState) (requests : List Frame) → Below (length directory.names) login.session
    → Below (length directory.names) (fold (advanced directory) login requests).session
all_below directory login [] below = below
all_below directory login (request ∷ requests) below = all_below directory (advanced directory login request) requests
    (advanced_below directory login request below)

-- the target that a life names is one of those that there are
pub is_configured : (directory : KnownTargets) (life : Life) (t : ℕ) → named_in directory life ≡ Some t → t < length directory.names
unfolding named_in remembered Below
is_configured directory life t e = all_below directory (new_login (life.connection + 1)) life.requests (λ u never. absurd cc) t e
