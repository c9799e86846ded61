use Rattle.std.proofs.Common.{[], sym}
use Rattle.std.proofs.lemmas.List.{append-nil}
use Rattle.iscsi_world.specs.SessionCalls.{LosesCommands}
use Rattle.iscsi_world.proofs.SessionCalls.{calls_session}
use Rattle.iscsi_connection.proofs.connection.Connection.lose.Goals as goal

pub returns-clause-calls : goal.returns-clause-calls
returns-clause-calls g c =
    let waiting = c.self.inside.waiting.items in
    calls_session (λ given then_ before bytes. LosesCommands c.args.function.now c.args.units.now c.lose.new.units given then_ before bytes)
    c.args.units.now c.lose.new.units c.args.self.now c.self.inside.arriving.bytes c.self.inside.phase waiting waiting
    c.in-FullFeature.session c.lose.new.session
    c.self.view_is c.in-FullFeature.is c.lose.ensures.params ([], sym (append-nil waiting)) (c.lose.ensures.runs waiting) (c.lose.ensures.eases waiting)
    c.lose.ensures.back c.lose.ensures.sure
