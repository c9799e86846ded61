-- A connection has the bytes of a piece after those that came before.
use Rattle.std.proofs.Common.{◌≡◌, ◌≢◌, ℕ, ◌<◌, List, ◌++◌, Some, refl, ◌∙◌, arith}
use Rattle.iscsi_pdu.specs.Frames.{rest}
use Rattle.iscsi_login.specs.Directory.{KnownTargets}
use Rattle.iscsi_session.specs.Comings.{Coming}
use Rattle.iscsi_world.specs.History.{connection_limit}
use Rattle.iscsi_world.specs.Life.{Life, Phase}
use Rattle.iscsi_world.specs.World.{Setting, World, present, changed, longer, begun_event}
use Rattle.iscsi_world.specs.Machine.{Machine}
use Rattle.iscsi_world.specs.Stands.{phase_for, link_of}
use Rattle.iscsi_world.specs.Serving.{Serves, with_half}
use Rattle.iscsi_world.proofs.Lives.{present-changed, present-changed_other, present_is}
use Rattle.iscsi_world.proofs.Keeping.{out-longer}
use Rattle.iscsi_world.proofs.Standing.{halves_of, present-begun, machine_same}

phase_longer : (directory : KnownTargets) (life : Life) (piece : List ℕ) (phase : Phase) → phase_for directory
    (longer piece life) phase ≡ phase_for directory life phase
phase_longer directory life piece phase = grind arith

abbrev pub piece_came : List Coming → ℕ → List ℕ → World → World
piece_came comings c piece w = changed (longer piece) c (begun_event comings w)

units_came : (comings : List Coming) (c : ℕ) (piece : List ℕ) (w : World) → (piece_came comings c piece w).units ≡ w.units
unfolding changed
units_came comings c piece w = refl

pub came_here : (comings : List Coming) (c : ℕ) (piece : List ℕ) (w : World) (life : Life) → present c w ≡ Some life
    → present c (piece_came comings c piece w) ≡ Some (longer piece life)
came_here comings c piece w life at =
    present-changed (longer piece) c (begun_event comings w) life (present-begun comings c w ∙ at) (present_is c w life at)

pub came_other : (comings : List Coming) (c d : ℕ) (piece : List ℕ) (w : World) → d ≢ c → present d (piece_came comings c piece w) ≡ present d w
came_other comings c d piece w differ = grind (arith, present-changed_other, present-begun)

link_longer : (directory : KnownTargets) (sent : ℕ) (half : List ℕ) (life : Life) (piece : List ℕ)
    → link_of directory sent half (Some (longer piece life)) ≡ link_of directory sent half (Some life)
link_longer directory sent half life piece = rw (phase_longer directory life piece life.phase, out-longer life piece) refl

-- the World with the longer bytes is served as the one before
pub longer_serves : (s : Setting) (sent : ℕ → ℕ) (half : ℕ → List ℕ) (w : World) (machine : Machine) (comings : List Coming) (c : ℕ)
    (piece : List ℕ) (life : Life)
    → c < connection_limit → present c w ≡ Some life → Serves s sent half w machine
    → Serves s sent half (piece_came comings c piece w) machine
longer_serves s sent half w machine comings c piece life lt at h =
    let v = piece_came comings c piece w in
    let here = came_here comings c piece w life at in
    record {
      is = grind (arith, machine_same, units_came, link_longer, came_other);
      answered = grind (arith, out-longer, came_other);
      quiet = grind (arith, came_other);
    }

-- of its bytes those are left that are no whole frame yet
pub halves_came : (comings : List Coming) (c : ℕ) (piece : List ℕ) (w : World) (life : Life) → present c w ≡ Some life → (d : ℕ)
    → with_half c (rest (life.bytes ++ piece)) (halves_of w) d ≡ halves_of (piece_came comings c piece w) d
halves_came comings c piece w life at d = grind (arith, came_here, came_other)
