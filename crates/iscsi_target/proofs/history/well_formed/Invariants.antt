use Rattle.std.proofs.Common.{◌≡◌, ℕ, List, drop}
use Rattle.iscsi_world.specs.History.{may_follow, well_formed}
use Rattle.iscsi_target.specs.Events.{events_view}
use Rattle.iscsi_world.specs.Runs.{IsTable}
use Rattle.iscsi_target.proofs.history.well_formed.Given as goal

-- the events that are left decide
abbrev pub invariant-loop-event : goal.invariant-loop-event
invariant-loop-event l = (before : List ℕ) × (IsTable l.table before) × (may_follow before (events_view (drop l.event-index l.events))
    ≡ well_formed (events_view l.events))
