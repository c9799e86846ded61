use Rattle.std.proofs.Common.{sym, ap, ◌∙◌}
use Rattle.iscsi_transfer.specs.WriteData.{WriteDataState, with_data}
use Rattle.iscsi_transfer.proofs.Standing.{remembered-accepted}
use Rattle.iscsi_transfer.proofs.write_data.WriteData.data_out.Goals as goal

pub returns-clause-stands : goal.returns-clause-stands
returns-clause-stands c past e =
    c.in_ok-accept.ensures.ok ∙ ap (λ (t : WriteDataState). with_data t c.args.out) e ∙ sym (remembered-accepted past c.args.out)
