use Rattle.std.proofs.Common.{◌≡◌, ◌++◌, ◌∙◌, true, refl, ap}
use Rattle.iscsi_pdu.specs.Answer.{spelling}
use Rattle.iscsi_world.specs.Machine.{LinkState, is_reading}
use Rattle.std.proofs.Common.{sym, subst}
use Rattle.iscsi_world.specs.declared.phase.Phase.{Phase}
use Rattle.iscsi_world.specs.declared.phase.Phase.TheVariants.{FullFeature}
use Rattle.iscsi_connection.specs.Arriving.{IsUntaken, out_in}
use Rattle.iscsi_connection.proofs.Ahead.{begun_untaken}
use Rattle.iscsi_connection.proofs.connection.Connection.begin.Goals as goal

pub returns-clause-ok : goal.returns-clause-ok
returns-clause-ok g c =
    let reading : is_reading c.self.inside.phase ≡ true = ap (λ (l : LinkState). is_reading l.phase) c.self.view_is ∙ c.requires in
    let written : c.put.new.self.items ≡ c.self.inside.waiting.items ++ spelling c.args.answer.now =
    c.put.ensures.items ∙ ap (λ bytes. bytes ++ spelling c.args.answer.now) c.in_ok-reserve.ensures.items in
    rw (c.change.ensures, c.in_ok-begun.ensures.same, c.in_ok-reserved.ensures, written, ← c.self.view_is, reading) refl

pub invariant_of-self-2 : goal.invariant_of-self-2
invariant_of-self-2 g c = λ counted. (
  (c.self.invariant counted).0,
  subst (λ (phase : Phase). IsUntaken phase (out_in c.self.inside.arriving.bytes))
      (sym (c.change.ensures ∙ ap FullFeature (c.in_ok-begun.ensures.same ∙ c.in_ok-reserved.ensures)))
      (begun_untaken c.args.session (out_in c.self.inside.arriving.bytes)),
)
