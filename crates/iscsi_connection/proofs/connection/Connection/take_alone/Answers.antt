use Rattle.std.proofs.Common.{◌≡◌, ◌∙◌, true, sym, ap}
use Rattle.iscsi_world.specs.Machine.{LinkState, is_reading}
use Rattle.iscsi_world.proofs.Choices.{cond_true}
use Rattle.iscsi_connection.proofs.connection.Connection.take_alone.Goals as goal

pub returns-clause-given : goal.returns-clause-given
returns-clause-given c =
    let reading : is_reading c.self.inside.phase ≡ true = ap (λ (l : LinkState). is_reading l.phase) c.self.view_is ∙ c.requires in
    let old : c.args.self.now.half ≡ c.self.inside.arriving.bytes = sym (ap (λ (l : LinkState). l.half) c.self.view_is) ∙ cond_true _ _ _ reading in
    rw old c.take_alone.ensures.given

pub returns-clause-no_more : goal.returns-clause-no_more
returns-clause-no_more c =
    let reading : is_reading c.self.inside.phase ≡ true = ap (λ (l : LinkState). is_reading l.phase) c.self.view_is ∙ c.requires in
    let old : c.args.self.now.half ≡ c.self.inside.arriving.bytes = sym (ap (λ (l : LinkState). l.half) c.self.view_is) ∙ cond_true _ _ _ reading in
    rw old c.take_alone.ensures.no_more
