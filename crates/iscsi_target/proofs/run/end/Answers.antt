use Rattle.std.proofs.Common.{◌<◌, length, arith}
use Rattle.iscsi_world.specs.Runs.{ended}
use Rattle.iscsi_target.proofs.Rows.{rows_next}
use Rattle.iscsi_target.proofs.run.end.Goals as goal

pub loop-row-preserved : goal.loop-row-preserved
loop-row-preserved g c =
    let lt : c.loop-row.row-index < length c.loop-row.rows = omega arith in
    rows_next (ended c.args.target.now c.args.c) c.loop-row.rows c.args.rows.now c.loop-row.row-index c.row-item.result c.end.new.self
    c.loop-row.auto.rows lt c.in_ok-end.ensures c.loop-row.invariant
