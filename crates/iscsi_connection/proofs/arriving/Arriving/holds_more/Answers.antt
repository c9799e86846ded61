use Rattle.std.proofs.Common.{sym, ap, ◌∙◌, subst}
use Rattle.iscsi_world.proofs.Choices.{cond_true}
use Rattle.iscsi_framer.specs.Framer.{HoldsNoMore}
use Rattle.iscsi_connection.specs.Arriving.{ArrivingState}
use Rattle.iscsi_connection.proofs.Ahead.{begun_half}
use Rattle.iscsi_connection.proofs.arriving.Arriving.holds_more.Goals as goal

pub returns-then-self-clause-no : goal.returns-then-self-clause-no
returns-then-self-clause-no c =
    let counted = c.self.invariant c.if-self.true in
    let is = ap (λ (a : ArrivingState). a.bytes) (sym c.self.view_is) ∙ cond_true _ _ _ c.if-self.true in
    λ e. subst HoldsNoMore (sym is) (λ short. (begun_half _ counted.half).within)
