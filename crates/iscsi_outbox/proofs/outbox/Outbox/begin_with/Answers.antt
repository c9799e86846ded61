use Rattle.std.proofs.Common.{◌≡◌, [], refl, ap, ◌∙◌}
use Rattle.std.specs.List.{flat_map}
use Rattle.iscsi_outbox.specs.declared.outbox.Outbox.{Outbox}
use Rattle.iscsi_outbox.specs.Outbox.{run_bytes}
use Rattle.iscsi_outbox.proofs.Runs.{none_before}
use Rattle.iscsi_outbox.proofs.outbox.Outbox.begin_with.Goals as goal

-- nothing waits
nothing : (c : goal.After-replace) → (flat_map run_bytes c.self.inside.runs.items ≡ []) × (c.self.inside.tail.items ≡ [])
nothing c = none_before _ _ (ap (λ (o : Outbox). o.items) c.self.view_is ∙ c.requires)

pub returns-clause-items : goal.returns-clause-items
returns-clause-items c = rw ((nothing c).0, c.replace.ensures.after) refl

pub returns-clause-given : goal.returns-clause-given
returns-clause-given c = rw c.replace.ensures.value (nothing c).1
