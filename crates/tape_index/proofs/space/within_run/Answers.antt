use Rattle.std.proofs.Common.{arith}
use Rattle.tape_index.proofs.SizeWays.{IsCounted, counts-record, counts-mark, counted-past, counted-part, records-passed}
use Rattle.tape_index.proofs.space.within_run.Goals as goal
use Rattle.tape_index.proofs.space.within_run.Goals.{in_default-via-in-Records+else-size-eq-MARK_SIZE, in_default-via-in-Filemarks+else-size-ne-MARK_SIZE}

pub returns-in-Filemarks-clause-way : goal.returns-in-Filemarks-clause-way
returns-in-Filemarks-clause-way c direction sizes =
    records-passed direction c.args.over c.args.left c.args.many c.args.size sizes c.in-Filemarks.is c.requires.left c.if-size-ne-MARK_SIZE.true

pub returns-in_default-clause-way : goal.returns-in_default-clause-way
returns-in_default-clause-way c direction sizes =
    let counted : IsCounted c.args.over c.args.size = elim c.in_default.branch [
      | in_default-via-in-Records+else-size-eq-MARK_SIZE w ↦ counts-record c.args.over c.args.size w.in-Records.is w.if-size-eq-MARK_SIZE.false
      | in_default-via-in-Filemarks+else-size-ne-MARK_SIZE w ↦ counts-mark c.args.over c.args.size w.in-Filemarks.is w.if-size-ne-MARK_SIZE.false
    ] in
    rw (c.from-in_default.ensures) (counted-part direction c.args.over c.args.left c.args.many c.args.size sizes counted (omega
    (arith, c.if-from-many.true, c.from.ensures)))

pub returns-in_default-2-clause-way : goal.returns-in_default-2-clause-way
returns-in_default-2-clause-way c direction sizes =
    let counted : IsCounted c.args.over c.args.size = elim c.in_default.branch [
      | in_default-via-in-Records+else-size-eq-MARK_SIZE w ↦ counts-record c.args.over c.args.size w.in-Records.is w.if-size-eq-MARK_SIZE.false
      | in_default-via-in-Filemarks+else-size-ne-MARK_SIZE w ↦ counts-mark c.args.over c.args.size w.in-Filemarks.is w.if-size-ne-MARK_SIZE.false
    ] in
    counted-past direction c.args.over c.args.left c.args.many c.args.size sizes counted (omega (arith, c.if-from-many.false, c.from.ensures))
