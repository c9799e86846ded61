-- What acts leave of how the commands of an event come out: only a command that is done takes one away.
use Rattle.std.proofs.Common.{◌≡◌, ℕ, List, refl, arith}
use Rattle.iscsi_pdu.specs.Frames.{Frame}
use Rattle.iscsi_session.specs.Steps.{Work}
use Rattle.iscsi_world.specs.Life.{Life}
use Rattle.iscsi_world.specs.World.{Setting, World, changed, close, log_in, worked, reset}

pub comings_changed : (f : Life → Life) (c : ℕ) (w : World) → (changed f c w).comings ≡ w.comings
unfolding changed
comings_changed f c w = refl

pub comings_close : (c : ℕ) (w : World) → (close c w).comings ≡ w.comings
unfolding close changed
comings_close c w = refl

pub comings_log_in : (s : Setting) (c : ℕ) (request : Frame) (w : World) → (log_in s c request w).comings ≡ w.comings
unfolding log_in
comings_log_in s c request w = grind (arith, comings_close, comings_changed)

-- those that its steps left
pub comings_worked : (c : ℕ) (work : Work) (w : World) → (worked c work w).comings ≡ work.units.comings
unfolding worked
comings_worked c work w = grind (arith, comings_close)

pub comings_reset : (header : List ℕ) (target : ℕ) (w : World) → (reset header target w).comings ≡ w.comings
unfolding reset
comings_reset header target w = refl
