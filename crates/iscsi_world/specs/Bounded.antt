-- What a connection may make the target hold (profile): what waits to be sent on it, and the requests of its session.
use Rattle.std.specs.Prelude.{◌≡◌, ℕ, ◌+◌, ◌*◌, ◌<◌, ◌≤◌, List, [], length, ⊤}
use Rattle.iscsi_session.specs.Weight.{weight_with, most_added, IsAtRest}
use Rattle.iscsi_login.specs.Directory.{KnownTargets}
use Rattle.scsi_unit.specs.Units.{UnitStates}
use Rattle.iscsi_world.specs.History.{arrivals}
use Rattle.iscsi_world.specs.Machine.{LinkState, Machine, link_at, with_link, free_link, opened_link, sent_link, closed, new_machine}
use Rattle.iscsi_world.specs.declared.phase.Phase.{Phase}
use Rattle.iscsi_world.specs.declared.phase.Phase.TheVariants.{Free, Login, FullFeature, Closing}

-- the most that a connection may make the target hold, in bytes (profile)
abbrev pub most_weight : ℕ
most_weight = 67108864

-- the bytes that wait, and 1,310,720 for each request of the session that is held or unfinished
abbrev pub weight_in : ℕ → Phase → ℕ
weight_in waiting (FullFeature session) = weight_with waiting session
weight_in waiting Free = waiting
weight_in waiting (Login login) = waiting
weight_in waiting Closing = waiting

abbrev pub weight : LinkState → ℕ
weight link = weight_in (length link.waiting) link.phase

-- a connection whose session, if it has one, is between two frames
abbrev pub Rests : Phase → Type 0
Rests (FullFeature session) = IsAtRest session
Rests Free = ⊤
Rests (Login login) = ⊤
Rests Closing = ⊤

-- a connection of at most this weight
pub record WeighsAtMost (most : ℕ) (link : LinkState) : Type 0 where
  pub fits : weight link ≤ most
  pub rests : Rests link.phase

-- a connection that weighs no more than it may, and keeps no whole frame
pub record IsBounded (link : LinkState) : Type 0 where
  pub weighs : WeighsAtMost most_weight link
  pub partial : arrivals link.half ≡ []

-- every connection is bounded
abbrev pub Bounded : Machine → Type 0
Bounded machine = (c : ℕ) → IsBounded (link_at machine c)

-- n frames add at most this to a connection; with n = 0 it becomes no heavier
abbrev pub AddsAtMost : ℕ → LinkState → LinkState → Type 0
AddsAtMost n old new = Rests old.phase → WeighsAtMost (weight old + n * most_added) new

-- a new target is bounded, and the calls that bring no bytes keep it so
pub record CallsKeepBounded : Type 0 where
  pub made : (directory : KnownTargets) (units : List UnitStates) → Bounded (new_machine directory units)
  pub opened : (machine : Machine) (c : ℕ) → c < length machine.links → Bounded machine → Bounded (with_link machine c (opened_link c))
  pub gone : (machine : Machine) (c : ℕ) → c < length machine.links → Bounded machine → Bounded (with_link (closed machine c) c free_link)
  pub sent : (machine : Machine) (c n : ℕ) → c < length machine.links → Bounded machine
      → Bounded (with_link machine c (sent_link (link_at machine c) n))
