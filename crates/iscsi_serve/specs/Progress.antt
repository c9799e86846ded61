-- The progress of the loop in a turn, and what each of its steps keeps.
use Rattle.std.specs.Prelude.{◌≡◌, ◌≢◌, ◌<◌, ◌≤◌, ℕ, List, [], ◌∷◌, ◌++◌, Bool, true, false, ◌&&◌, ◌||◌, ◌==◌, length, replicate, slice_index_or}
use Rattle.std.specs.List.{list_any}
use Rattle.iscsi_target.specs.History as history
use Rattle.iscsi_session.specs.Comings.{Coming}
use Rattle.iscsi_target.specs.History.{Happening, History, Mark, happening, connection_limit}
use Rattle.iscsi_target.specs.World.{Setting, World, world}
use Rattle.iscsi_target.specs.Stands.{Stands}
use Rattle.iscsi_target.specs.Machine.{Machine, LinkState, IsSound, ReflectsSoundness, IsSure, Feeds, link_at, is_open_at, is_closing, want_of}
use Rattle.iscsi_ports.specs.Log.{Entry}
use Rattle.iscsi_target.specs.Bounded.{Bounded}
use Rattle.iscsi_serve.specs.Served.{MayHappen, IsFed, StaysServed, ComesOutServed}
use Rattle.iscsi_serve.specs.Turn.{Moment, moment, is_open, is_read, room_for, ends}
use Rattle.iscsi_ports.specs.declared.results.Named.{Named}

-- entry c of the list says whether connection c ended in this turn
abbrev pub AreEnded : List Bool → List Entry → Type 0
AreEnded ended turn = (c : ℕ) → c < connection_limit → slice_index_or ended c false ≡ list_any (ends c) turn

-- no connection ended
abbrev pub none_ended : List Bool
none_ended = replicate connection_limit false

-- own: a connection is open, and it has ended, or the target has closed it and nothing waits on it
abbrev pub is_over : Bool → LinkState → Bool
is_over has_ended link = is_open link && (has_ended || is_closing link.phase && length link.waiting == 0)

-- the connection is to be closed, if these have ended
abbrev pub is_to_close : List Bool → Machine → ℕ → Bool
is_to_close ended target c = is_over (slice_index_or ended c false) (link_at target c)

-- no close is due on a connection below this number
abbrev pub NoneToClose : ℕ → List Bool → Machine → Type 0
NoneToClose limit ended target = (c : ℕ) → c < limit → is_to_close ended target c ≡ false

-- every other connection is unchanged
abbrev pub KeepsOthers : ℕ → Machine → Machine → List Bool → List Bool → Type 0
KeepsOthers c target target_then ended ended_then =
    (d : ℕ) → d ≢ c → (link_at target_then d ≡ link_at target d) × (slice_index_or ended_then d false ≡ slice_index_or ended d false)

-- a read with this much room is due
pub record IsDue (named : Named) (c room : ℕ) (target : Machine) : Type 0 where
  pub due : is_read named c (link_at target c) ≡ true
  pub open_ : is_open_at target c ≡ true
  pub is_room : room ≡ room_for (link_at target c)

-- a piece of a connection was fed: the target stands after it where the World does, and what happened satisfies May
abbrev pub StandsFed : (Setting → World → Happening → Type 0) → ℕ → List ℕ → Machine → Machine → Type 0
StandsFed May c piece target target_then =
    (s : Setting) (sent : ℕ → ℕ) (h : History) → Stands s sent target h
    → (marks : List Mark) × (comings : List Coming) × May s (world s h) (happening marks comings (history.Bytes c piece))
    × Stands s sent target_then (h ++ happening marks comings (history.Bytes c piece) ∷ [])

-- in the turn that began at this log, the loop moved from one moment to another by R
abbrev pub MovesBy : (Moment → Moment → Type 0) → List Entry → List Entry → Machine → Machine → List Bool → List Bool → Type 0
MovesBy R log log_then target target_then ended ended_then =
    (before turn : List Entry) → log ≡ before ++ turn → AreEnded ended turn
    → (after : List Entry) × (log_then ≡ before ++ after) × AreEnded ended_then after × R (moment target before turn) (moment target_then before after)

-- what each step keeps, whatever it does
pub record Keeps (tells tells_then : Bool) (log log_then : List Entry) (target target_then : Machine) : Type 0 where
  pub back : tells_then ≡ true → tells ≡ true
  pub each : ReflectsSoundness target target_then
  pub sure : IsSure target → IsSure target_then
  pub served : tells_then ≡ true → IsSound target_then → StaysServed log log_then target target_then
  pub came : tells_then ≡ true → ComesOutServed log log_then target target_then
  pub bounded : Bounded target → Bounded target_then

-- a step by R: what it does, and what it keeps
pub record StepsBy (R : Moment → Moment → Type 0) (tells tells_then : Bool) (log log_then : List Entry)
    (target target_then : Machine) (ended ended_then : List Bool) : Type 0 where
  pub keeps : Keeps tells tells_then log log_then target target_then
  pub goes : tells_then ≡ true → MovesBy R log log_then target target_then ended ended_then

-- A piece was fed to a connection of every target, whatever its stores do, and of a sound one.
pub record FeedsPiece (c : ℕ) (piece : List ℕ) (target target_then : Machine) : Type 0 where
  pub stands : IsSound target_then → StandsFed MayHappen c piece target target_then
  pub bounded : length piece ≤ want_of (link_at target c) → Bounded target → Bounded target_then
  pub feeds : Feeds c target target_then
  pub fed : IsFed c piece target target_then
  pub each : ReflectsSoundness target target_then
  pub sure : IsSure target → IsSure target_then
