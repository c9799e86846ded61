use Rattle.std.proofs.Common.{arith, sym, ◌∙◌}
use Rattle.std.proofs.lemmas.Bool.{eqb-true}
use Rattle.iscsi_framer.proofs.Whole.{after_header}
use Rattle.iscsi_framer.proofs.framer.Framer.after_header.Goals as goal

pub returns : goal.returns
returns c =
    let full = eqb-true _ _ (sym c.is_full.ensures.value ∙ c.if-not-is_full.false) in
    after_header c.self.inside.header.items c.self.inside.behind c.args.self.now _ c.self.invariant c.self.view_is (omega (arith, full))
    c.in_ok-bytes.ensures
