-- What one target's initiators see: its part of a history, without the connections of the other targets.
use Rattle.std.specs.Prelude.{◌≡◌, ℕ, suc, ◌+◌, List, [], ◌∷◌, ◌++◌, fold, map, Bool, true, false, ◌==◌, Option, Some, None, slice_get, if◌then◌else◌, ⊤}
use Rattle.std.specs.Option.{option_and_then}
use Rattle.iscsi_login.specs.Directory.{KnownTargets}
use Rattle.iscsi_login.specs.Session.{is_same_target}
use Rattle.iscsi_login.specs.Login.{remembered}
use Rattle.iscsi_session.specs.Comings.{Coming, IsCalm}
use Rattle.iscsi_world.specs.History.{Event, Open, Bytes, Gone, History, happening, plain, well_formed}
use Rattle.iscsi_world.specs.Life.{Life}
use Rattle.iscsi_world.specs.World.{Setting, World, world, units_at}
use Rattle.iscsi_world.specs.Output.{outputs, media, media_in}
use Rattle.iscsi_world.specs.Machine.{Machine}
use Rattle.iscsi_world.specs.Stands.{Stands}

-- ---- some of the lives

-- the elements whose numbers are kept; the first has the number n
abbrev pub kept_from : {X : Type 0} → (ℕ → Bool) → ℕ → List X → List X
kept_from keeps n [] = []
kept_from keeps n (x ∷ xs) = if keeps n then x ∷ kept_from keeps (suc n) xs else kept_from keeps (suc n) xs

abbrev pub kept : {X : Type 0} → (ℕ → Bool) → List X → List X
kept keeps xs = kept_from keeps 0 xs

abbrev pub connection_of : Event → ℕ
connection_of (Open c) = c
connection_of (Bytes c piece) = c
connection_of (Gone c) = c

-- Lives are numbered in the order in which they begin. These are the number of the next life, and of the last life of
-- each connection.
abbrev pub next_after : ℕ → Event → ℕ
next_after next (Open c) = suc next
next_after next (Bytes c piece) = next
next_after next (Gone c) = next

abbrev pub last_after : ℕ → (ℕ → ℕ) → Event → ℕ → ℕ
last_after next last (Open c) d = if d == c then next else last d
last_after next last (Bytes c piece) d = last d
last_after next last (Gone c) d = last d

-- the events of the lives that are kept
abbrev pub only_from : (ℕ → Bool) → ℕ → (ℕ → ℕ) → List Event → List Event
only_from keeps next last [] = []
only_from keeps next last (event ∷ events) =
    let now = last_after next last event in
    let others = only_from keeps (next_after next event) now events in
    if keeps (now (connection_of event)) then event ∷ others else others

-- the history without the events of the lives that are not kept
unfoldable pub only : (ℕ → Bool) → List Event → List Event
only keeps events = only_from keeps 0 (λ c. 0) events

-- ---- which lives belong to a target

-- the target that a life's first whole login text asks for in a Normal session, if it is one of these
unfoldable pub named_in : KnownTargets → Life → Option ℕ
named_in directory life = option_and_then (λ session. session.target) (remembered directory (life.connection + 1) life.requests).session

-- A choice of lives: of those that name one of the targets, exactly those that name this one are kept. Any others may
-- be kept.
abbrev pub Selects : KnownTargets → ℕ → (ℕ → Bool) → List Life → Type 0
Selects directory target keeps lives = (k : ℕ) (life : Life) (named : ℕ) → slice_get lives k ≡ Some life → named_in directory life ≡ Some named
    → keeps k ≡ (named == target)

-- the lives that name a target, and no others
abbrev pub names : KnownTargets → ℕ → List Life → ℕ → Bool
names directory target lives k = is_same_target (option_and_then (named_in directory) (slice_get lives k)) (Some target)

-- ---- the law

abbrev pub plain_world : Setting → List Event → World
plain_world s events = world s (map plain events)

abbrev pub events_of : History → List Event
events_of history = map (λ x. x.event) history

-- no allocation failed
abbrev pub AreUnmarked : History → Type 0
AreUnmarked [] = ⊤
AreUnmarked (x ∷ history) = (x.marks ≡ []) × AreUnmarked history

-- no store of this target failed
abbrev pub AreCalm : ℕ → History → Type 0
AreCalm target [] = ⊤
AreCalm target (x ∷ history) = IsCalm target x.comings × AreCalm target history

-- After this history the kept lives, their answers and a target's units are those of a smaller history. It has the
-- events of the kept lives alone, and no store failed in it.
pub record IsAlone (s : Setting) (target : ℕ) (keeps : ℕ → Bool) (history : History) : Type 0 where
  pub lives : kept keeps (world s history).lives ≡ (plain_world s (only keeps (events_of history))).lives
  pub units : units_at (Some target) (world s history).units ≡ units_at (Some target) (plain_world s (only keeps (events_of history))).units
  pub answers : kept keeps (outputs s history) ≡ outputs s (map plain (only keeps (events_of history)))
  pub media : media s history target ≡ media s (map plain (only keeps (events_of history))) target

-- Dropping lives changes nothing for the kept lives and for a target of which no store failed. The condition: each
-- life that names the target is kept, and none that names another one. It does not matter what others log in, break,
-- reset or reserve elsewhere, nor what the stores of others do.
abbrev pub TargetsAreIsolated : Type 0
TargetsAreIsolated = (s : Setting) (target : ℕ) (keeps : ℕ → Bool) (history : History) → well_formed (events_of history) ≡ true
    → AreUnmarked history → AreCalm target history → Selects s.directory target keeps (world s history).lives → IsAlone s target keeps history

-- So the answers of the lives that name a target, and its units, are those of their own events alone.
abbrev pub TargetsSeeTheirOwn : Type 0
TargetsSeeTheirOwn = (s : Setting) (target : ℕ) (history : History) → well_formed (events_of history) ≡ true
    → AreUnmarked history → AreCalm target history → IsAlone s target (names s.directory target (world s history).lives) history

-- A life that names no target is answered as if it were alone.
abbrev pub StrangersAreAlone : Type 0
StrangersAreAlone = (s : Setting) (history : History) (k : ℕ) (life : Life) → well_formed (events_of history) ≡ true → AreUnmarked history
    → slice_get (world s history).lives k ≡ Some life → named_in s.directory life ≡ None
    → kept (λ j. j == k) (outputs s history) ≡ outputs s (map plain (only (λ j. j == k) (events_of history)))

-- ---- one event

-- the number of the last life of each connection after these events
abbrev pub last_among : ℕ → (ℕ → ℕ) → List Event → ℕ → ℕ
last_among next last [] = last
last_among next last (event ∷ events) = last_among (next_after next event) (last_after next last event) events

-- the number of an event's life, if these events came before it
abbrev pub life_of : List Event → Event → ℕ
life_of events event = last_after (fold next_after 0 events) (last_among 0 (λ c. 0) events) event (connection_of event)

-- One more event of a history in which no allocation and no store of this target failed. Of its lives each that names
-- the target is kept, and none that names another one.
pub record Watches (s : Setting) (target : ℕ) (keeps : ℕ → Bool) (history : History) (comings : List Coming) (event : Event) : Type 0 where
  pub formed : well_formed (events_of history ++ event ∷ []) ≡ true
  pub unmarked : AreUnmarked history
  pub calm : AreCalm target history × IsCalm target comings
  pub selects : Selects s.directory target keeps (world s (history ++ happening [] comings event ∷ [])).lives

-- the same lives are kept, with the same answers, and the target has the same units
pub record AreAlike (target : ℕ) (keeps others : ℕ → Bool) (one other : World) : Type 0 where
  pub lives : kept keeps one.lives ≡ kept others other.lives
  pub units : units_at (Some target) one.units ≡ units_at (Some target) other.units

-- The effect of an event on its own life and on a target depends only on the target's part, the life and the event.
-- Two histories that agree on this before the event agree on it after the event. The event may be of a login, of a
-- discovery session or of a session with the target (own). An event of a life that is not kept has no effect there
-- (other).
pub record EventsAreLocal : Type 0 where
  pub own : (s : Setting) (target : ℕ) (keeps others : ℕ → Bool) (h g : History) (came came_there : List Coming) (event : Event)
      → Watches s target keeps h came event → Watches s target others g came_there event
      → keeps (life_of (events_of h) event) ≡ true → others (life_of (events_of g) event) ≡ true
      → AreAlike target keeps others (world s h) (world s g)
      → AreAlike target keeps others (world s (h ++ happening [] came event ∷ [])) (world s (g ++ happening [] came_there event ∷ []))
  pub other : (s : Setting) (target : ℕ) (keeps : ℕ → Bool) (h : History) (came : List Coming) (event : Event)
      → Watches s target keeps h came event → keeps (life_of (events_of h) event) ≡ false
      → AreAlike target keeps keeps (world s h) (world s (h ++ happening [] came event ∷ []))

-- ---- the result of a run

-- The answers, one text for each life, and the target after the run are those of a history of these events. No
-- allocation failed in it. The answers of the lives that name this target, and what its units keep, are those of
-- their own events alone. The same holds of the answer of each life that names no target.
pub record GivesItsOwn (s : Setting) (target : ℕ) (events : List Event) (answered : List (List ℕ)) (machine : Machine) : Type 0 where
  pub history : History
  pub of : events_of history ≡ events
  pub unmarked : AreUnmarked history
  pub stands : Stands s (λ c. 0) machine history
  pub all : answered ≡ outputs s history
  pub answers : kept (names s.directory target (world s history).lives) answered
      ≡ outputs s (map plain (only (names s.directory target (world s history).lives) events))
  pub media : media_in machine.units target ≡ media s (map plain (only (names s.directory target (world s history).lives) events)) target
  pub strangers : (k : ℕ) (life : Life) → slice_get (world s history).lives k ≡ Some life → named_in s.directory life ≡ None
      → kept (λ j. j == k) answered ≡ outputs s (map plain (only (λ j. j == k) events))
