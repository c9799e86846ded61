use Rattle.std.proofs.Common.{sym, ap, ◌∙◌, subst}
use Rattle.iscsi_world.specs.declared.phase.Phase.{Phase}
use Rattle.iscsi_world.specs.declared.phase.Phase.TheVariants.{FullFeature}
use Rattle.iscsi_connection.specs.Arriving.{IsUntaken, out_in}
use Rattle.iscsi_connection.proofs.Ahead.{begun_untaken}
use Rattle.iscsi_connection.proofs.connection.Connection.begin_discovery.Goals as goal

pub invariant_of-self-2 : goal.invariant_of-self-2
invariant_of-self-2 c = λ counted. (
  (c.self.invariant counted).0,
  subst (λ (phase : Phase). IsUntaken phase (out_in c.self.inside.arriving.bytes))
      (sym (c.change.ensures ∙ ap FullFeature (c.in_ok-begun.ensures))) (begun_untaken c.args.session (out_in c.self.inside.arriving.bytes)),
)
