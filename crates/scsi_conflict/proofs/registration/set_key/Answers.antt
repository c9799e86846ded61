use Rattle.std.proofs.Common.{set, ap, sym, ◌∙◌, arith}
use Rattle.std.proofs.lemmas.List.Edits.{map_over_more}
use Rattle.scsi_conflict.specs.Registration.{with_key}
use Rattle.scsi_conflict.specs.declared.registration.Row.{Row}
use Rattle.scsi_conflict.proofs.registration.set_key.Goals as goal

pub loop-at-preserved : goal.loop-at-preserved
loop-at-preserved c =
    ap (set c.loop-at.rows c.loop-at.at) c.set_key_of.ensures
    ∙ ap (λ (row : Row). set c.loop-at.rows c.loop-at.at (with_key c.args.nexus.now c.args.key row)) (sym c.index-rows-at.is)
    ∙ map_over_more (with_key c.args.nexus.now c.args.key) c.args.rows.now c.loop-at.rows c.loop-at.at c.index-rows-at.result (omega arith)
    c.loop-at.invariant c.index-rows-at.is
