-- For how long a poll waits that limits a wait.
use Rattle.std.proofs.Common.{◌≡◌, ℕ, zero, suc, Option, Some, None, Bool, true, false, min, refl, sym, ◌∙◌, arith}
use Rattle.std.proofs.lemmas.Bool.{ne_eqb}
use Rattle.iscsi_ports.specs.Polls.{IsNoLonger, wait_for}
use Rattle.iscsi_ports.specs.Lingering.{is_at_once}

pub shortly_no_longer : (wait : Option ℕ) → IsNoLonger (wait_for false true wait) wait
shortly_no_longer None = tt
shortly_no_longer (Some limit) = omega arith

pub shortly_a_second : (wait : Option ℕ) → IsNoLonger (wait_for false true wait) (Some 1000000000)
shortly_a_second None = omega arith
shortly_a_second (Some limit) = omega arith

-- one that is limited once more is no longer than before
pub limited_no_longer : (limits : Bool) (wait longest : Option ℕ) → IsNoLonger wait longest → IsNoLonger (wait_for false limits wait) longest
limited_no_longer false wait longest le = le
limited_no_longer true wait None le = tt
limited_no_longer true None (Some limit) le = absurd le
limited_no_longer true (Some time) (Some limit) le = omega (arith, le)

-- and waits if it waited before
pub limited_at_once : (limits : Bool) (wait : Option ℕ) → is_at_once (wait_for false limits wait) ≡ is_at_once wait
limited_at_once false wait = refl
limited_at_once true None = refl
limited_at_once true (Some zero) = refl
limited_at_once true (Some (suc time)) =
    ne_eqb (min (suc time) 1000000000) 0 (omega arith) ∙ sym (ne_eqb (suc time) 0 (omega arith))
