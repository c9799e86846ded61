use Rattle.std.proofs.Common.{◌≡◌, ◌∙◌, true, sym, ap}
use Rattle.iscsi_world.specs.Machine.{LinkState, is_reading}
use Rattle.iscsi_world.proofs.Choices.{cond_true}
use Rattle.iscsi_connection.proofs.Ahead.{may_serve}
use Rattle.iscsi_connection.proofs.connection.Connection.take.Goals as goal

pub returns-clause-given : goal.returns-clause-given
returns-clause-given c =
    let reading : is_reading c.self.inside.phase ≡ true = ap (λ (l : LinkState). is_reading l.phase) c.self.view_is ∙ c.requires.reads in
    let old : c.args.self.now.half ≡ c.self.inside.arriving.bytes = sym (ap (λ (l : LinkState). l.half) c.self.view_is) ∙ cond_true _ _ _ reading in
    rw old c.take.ensures.given

pub returns-clause-serves : goal.returns-clause-serves
returns-clause-serves c =
    let phase = ap (λ (l : LinkState). l.phase) c.self.view_is in
    rw (← phase) (may_serve (λ taken. taken.arrived) c.self.inside.phase c.take.result c.self.inside.arriving c.self.invariant c.take.ensures.passed)
