-- How heavy a connection is after a call.
use Rattle.std.proofs.Common.{◌≡◌, ℕ, ◌+◌, ◌≤◌, length, Bool, arith}
use Rattle.iscsi_session.specs.State.{SessionState}
use Rattle.iscsi_session.specs.Weight.{IsAtRest, Loads}
use Rattle.iscsi_world.specs.Machine.{LinkState, shut_link}
use Rattle.iscsi_world.specs.SessionCalls.{ended_link}
use Rattle.iscsi_world.specs.Bounded.{weight_in, AddsAtMost}
use Rattle.iscsi_world.specs.declared.phase.Phase.{Phase}
use Rattle.iscsi_world.specs.declared.phase.Phase.TheVariants as phases

pub adds_none : (n : ℕ) (link : LinkState) → AddsAtMost n link link
adds_none n link r = record { fits = omega arith; rests = r }

pub adds_then : (n m : ℕ) (old middle new : LinkState) → AddsAtMost n old middle → AddsAtMost m middle new → AddsAtMost (n + m) old new
adds_then n m old middle new a b r = grind arith

-- ---- a connection closes

pub waiting_least : (waiting : ℕ) (phase : Phase) → waiting ≤ weight_in waiting phase
waiting_least waiting phase = grind arith

pub adds_shut : (n : ℕ) (link : LinkState) → AddsAtMost n link (shut_link link)
adds_shut n link r = record { fits = omega (arith, waiting_least (length link.waiting) link.phase); rests = tt }

-- ---- a session's call

-- one that does not go on is closed
pub session_loads : (goes_on : Bool) (old new : LinkState) (given session : SessionState) → old.phase ≡ phases.FullFeature given
    → new.phase ≡ phases.FullFeature session → (IsAtRest given → Loads goes_on given session old.waiting new.waiting)
    → AddsAtMost 1 old (ended_link goes_on new)
session_loads goes_on old new given session was is loads r = grind arith
