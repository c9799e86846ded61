use Rattle.std.proofs.Common.{◌≡◌, ℕ, List, true, map, take, drop}
use Rattle.std.specs.Prelude.{All}
use Rattle.scsi_unit.specs.Units.{AreSure}
use Rattle.iscsi_target.specs.Known.{known_in}
use Rattle.iscsi_world.specs.History.{may_follow}
use Rattle.iscsi_target.specs.Events.{events_view, plain_history}
use Rattle.iscsi_world.specs.Machine.{WhereSound, IsSure}
use Rattle.iscsi_world.specs.Runs.{AreOpen, Runs, RunsThrough}
use Rattle.iscsi_target.specs.Rows.{seen}
use Rattle.iscsi_target.proofs.target.Target.run.Given as goal

-- the events so far were taken, and the others may follow
abbrev pub invariant-loop-event : goal.invariant-loop-event
invariant-loop-event g l =
    (before : List ℕ)
    × WhereSound l.target (Runs (record { directory = known_in l.fn.config; units = l.fn.units.items }) l.target
    (map seen l.rows.items) before (plain_history (take l.event-index l.events)))
    × RunsThrough (record { directory = known_in l.fn.config; units = l.fn.units.items }) l.target
    (map seen l.rows.items) before (events_view (take l.event-index l.events))
    × AreOpen l.target before
    × (may_follow before (events_view (drop l.event-index l.events)) ≡ true)
    × (All AreSure l.fn.units.items → IsSure l.target)
