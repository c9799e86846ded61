use Rattle.std.proofs.Common.{arith}
use Rattle.iscsi_transfer.proofs.Counts.{count_fits}
use Rattle.iscsi_transfer.proofs.data_in.count_among.Goals as goal

pub overflow_add-result : goal.overflow_add-result
overflow_add-result c = rw (c.div_ceil.ensures, c.div_ceil-2.ensures) (let fits =
    count_fits c.args.length c.args.burst c.args.segment c.requires.burst c.requires.segment in omega (arith, fits))
