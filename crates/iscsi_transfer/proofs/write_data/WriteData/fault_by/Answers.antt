use Rattle.std.proofs.Common.{ap, sym, ◌∙◌}
use Rattle.iscsi_transfer.specs.WriteData.{WriteDataState, fault_of}
use Rattle.iscsi_transfer.proofs.Blank.{long_of, fault_same}
use Rattle.iscsi_transfer.proofs.write_data.WriteData.fault_by.Goals as goal

pub returns : goal.returns
returns c = λ out header long.
    c.fault_by.ensures out header long ∙ sym (fault_same c.self.inside.progress c.self.inside.payload out (long_of _ _ c.self.invariant))
    ∙ ap (λ (t : WriteDataState). fault_of t out) c.self.view_is
