use Rattle.std.proofs.Common.{true, false, None}
use Rattle.iscsi_session.specs.Runs.{Stops}
use Rattle.iscsi_session.specs.Steps.{is_doing}
use Rattle.iscsi_world.specs.SessionCalls.{SettlesUnits}
use Rattle.iscsi_world.proofs.SessionCalls.{calls_session}
use Rattle.iscsi_connection.proofs.Ahead.{still_passes}
use Rattle.iscsi_connection.proofs.connection.Connection.settle.Goals as goal

pub returns-clause-calls : goal.returns-clause-calls
returns-clause-calls g c =
    calls_session (λ given then_ before waiting. SettlesUnits c.args.units.now c.settle.new.units None true given then_ before waiting)
    c.args.units.now c.settle.new.units c.args.self.now c.self.inside.arriving.bytes c.self.inside.phase c.self.inside.waiting.items c.settle.new.out.items
    c.in-FullFeature.session c.settle.new.self c.self.view_is c.in-FullFeature.is c.settle.ensures.params c.settle.ensures.grows c.in-Ok.ensures.ok
    c.settle.ensures.eases c.settle.ensures.back c.settle.ensures.sure

pub returns-in-Err-clause-calls : goal.returns-in-Err-clause-calls
returns-in-Err-clause-calls g c =
    calls_session (λ given then_ before waiting. Stops is_doing
    (λ failed. SettlesUnits c.args.units.now c.settle.new.units failed false given then_ before waiting))
    c.args.units.now c.settle.new.units c.args.self.now c.self.inside.arriving.bytes c.self.inside.phase c.self.inside.waiting.items c.settle.new.out.items
    c.in-FullFeature.session c.settle.new.self c.self.view_is c.in-FullFeature.is c.settle.ensures.params c.settle.ensures.grows c.in-Err.ensures.err
    c.settle.ensures.eases c.settle.ensures.back c.settle.ensures.sure

pub invariant_of-self-in-Err : goal.invariant_of-self-in-Err
invariant_of-self-in-Err g c = still_passes c.in-FullFeature.session c.settle.new.self c.self.inside.arriving c.settle.ensures.takes
    (rw c.in-FullFeature.is at c.self.invariant)

pub invariant_of-self-2 : goal.invariant_of-self-2
invariant_of-self-2 g c = still_passes c.in-FullFeature.session c.settle.new.self c.self.inside.arriving c.settle.ensures.takes
    (rw c.in-FullFeature.is at c.self.invariant)
