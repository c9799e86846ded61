use Rattle.std.proofs.Common.{◌≡◌, ◌++◌, ℕ, List}
use Rattle.scsi_unit.specs.Units.{numbers_of}
use Rattle.iscsi_session.specs.Comings.{TargetUnits}
use Rattle.iscsi_session.specs.Runs.{output}
use Rattle.iscsi_requests.specs.State.{waiting}
use Rattle.iscsi_session.proofs.Settled.{RanActs}
use Rattle.iscsi_session.proofs.session.Session.act_all.Given as goal

-- so many requests acted
abbrev pub invariant-loop : goal.invariant-loop
invariant-loop l = record {
  turns : ℕ;
  ran : (units : TargetUnits) → l.luns ≡ numbers_of units.states → RanActs turns l.initial.self l.self
      (output l.initial.out.items l.initial.orders.items) (output l.out.items l.orders.items) units;
  grows : (more : List ℕ) × (l.out.items ≡ l.initial.out.items ++ more);
  params : l.self.params ≡ l.initial.self.params;
}

-- each that acts waits no longer
abbrev pub decreases-loop : goal.decreases-loop
decreases-loop l = waiting l.self.tasks
