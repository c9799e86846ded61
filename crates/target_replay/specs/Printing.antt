-- What printing has done to the target.
use Rattle.std.specs.Prelude.{◌≡◌, ℕ, List, ◌++◌}
use Rattle.iscsi_target.specs.History.{History}
use Rattle.iscsi_target.specs.World.{Setting, world}
use Rattle.iscsi_target.specs.Machine.{Machine}
use Rattle.iscsi_target.specs.Stands.{Stands, with_sent}
use Rattle.target_replay.specs.Printed.{all_sent, HasSentAll, gone_of, printed_of, printed, after_printing}

-- one connection was printed after a text, and has sent everything; if it was closed, it is gone
pub record HasPrintedOne (s : Setting) (sent : ℕ → ℕ) (h : History) (c : ℕ) (before after : List ℕ) (target : Machine) : Type 0 where
  pub prints : after ≡ before ++ printed_of sent (world s h) c
  pub stands : Stands s (with_sent sent c (all_sent (world s (h ++ gone_of (world s h) c)) c)) target (h ++ gone_of (world s h) c)

-- all connections were printed
pub record HasPrintedAll (s : Setting) (sent : ℕ → ℕ) (h : History) (text : List ℕ) (target : Machine) : Type 0 where
  pub prints : text ≡ printed sent (world s h)
  pub stands : HasSentAll s (after_printing s h) target
