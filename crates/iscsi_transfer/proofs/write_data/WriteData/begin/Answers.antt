use Rattle.std.proofs.Common.{◌≡◌, refl, ap, sym, ◌∙◌, length}
use Rattle.iscsi_pdu.specs.Frames.{Frame}
use Rattle.iscsi_transfer.specs.WriteData.{WriteDataState}
use Rattle.iscsi_transfer.proofs.Settling.{few_enough}
use Rattle.iscsi_transfer.proofs.Standing.{started}
use Rattle.iscsi_transfer.proofs.write_data.WriteData.begin.Goals as goal

pub begun-progress-requires-clause-fits : goal.begun-progress-requires-clause-fits
begun-progress-requires-clause-fits c = few_enough c.args.values.now c.args.command c.requires.lawful

pub returns-clause-stands : goal.returns-clause-stands
returns-clause-stands c =
    let payload = c.in_ok-payload.payload in
    let body : payload ≡ c.args.command.body = c.in_ok-payload.ensures.ok ∙ ap (λ (f : Frame). f.body) c.command.view_is in
    ap (λ (t : WriteDataState). record t { payload = payload }) c.begun-progress.ensures
    ∙ started c.args.values.now c.args.command _ _ _ _ body (sym (ap length body)) refl refl
