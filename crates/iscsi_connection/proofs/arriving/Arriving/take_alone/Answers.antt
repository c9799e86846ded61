use Rattle.std.proofs.Common.{◌≡◌, sym, ap, ◌∙◌}
use Rattle.iscsi_world.proofs.Choices.{cond_false}
use Rattle.iscsi_connection.specs.Arriving.{ArrivingState}
use Rattle.iscsi_connection.proofs.Ahead.{gives_alone, alone_only}
use Rattle.iscsi_connection.proofs.arriving.Arriving.take_alone.Goals as goal

pub returns-clause-given : goal.returns-clause-given
returns-clause-given c =
    let old : c.args.self.now.bytes ≡ c.self.inside.framer = sym (ap (λ (a : ArrivingState). a.bytes) c.self.view_is) ∙ cond_false _ _ _ c.if-self.false in
    gives_alone c.take_alone.result c.self.inside.framer c.args.self.now.bytes old c.take_alone.ensures.given

pub returns-clause-no_more : goal.returns-clause-no_more
returns-clause-no_more c =
    let old : c.args.self.now.bytes ≡ c.self.inside.framer = sym (ap (λ (a : ArrivingState). a.bytes) c.self.view_is) ∙ cond_false _ _ _ c.if-self.false in
    alone_only c.take_alone.result c.self.inside.framer c.args.self.now.bytes old c.take_alone.ensures.given
