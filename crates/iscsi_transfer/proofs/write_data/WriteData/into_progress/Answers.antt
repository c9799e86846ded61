use Rattle.std.proofs.Common.{ℕ, List, ap, ◌∙◌}
use Rattle.iscsi_transfer.specs.WriteData.{WriteDataState, blank}
use Rattle.iscsi_transfer.proofs.write_data.WriteData.into_progress.Goals as goal

pub returns : goal.returns
returns c =
    ap (λ (bytes : List ℕ). let task : WriteDataState = record c.self.inside.progress { payload = bytes } in task) c.self.invariant
    ∙ ap blank c.self.view_is
