use Rattle.std.proofs.Common.{ℕ, List, length, ap, arith}
use Rattle.iscsi_outbox.proofs.Moves.{settles, settles_ready}
use Rattle.iscsi_outbox.proofs.cursor.Cursor.start_piece.Goals as goal

pub header-header-requires-clause-offset : goal.header-header-requires-clause-offset
header-header-requires-clause-offset c =
    let short = c.requires.short in
    let begins = c.piece-piece.ensures.lies.begins in
    omega arith

pub header-header-requires-clause-short : goal.header-header-requires-clause-short
header-header-requires-clause-short c =
    let longest = c.requires.limits.longest in
    let short = c.piece-piece.ensures.lies.short in
    omega arith

pub header-header-requires-clause-within : goal.header-header-requires-clause-within
header-header-requires-clause-within c =
    let room = c.requires.within in
    let begins = c.piece-piece.ensures.lies.begins in
    let within = c.piece-piece.ensures.lies.within in
    omega arith

pub overflow_add-self-then-self-2-2 : goal.overflow_add-self-then-self-2-2
overflow_add-self-then-self-2-2 c =
    let short = c.requires.short in
    let within = c.piece-piece.ensures.lies.within in
    omega arith

pub returns-then-self-2-clause-same : goal.returns-then-self-2-clause-same
returns-then-self-2-clause-same c =
    settles c.args.self.now c.put_over.new.buffer c.header-header.result c.piece-piece.result c.requires c.piece-piece.ensures.value
    c.if-self-2.true c.header-header.ensures c.put_over.ensures.items

pub returns-then-self-2-clause-ready : goal.returns-then-self-2-clause-ready
returns-then-self-2-clause-ready c =
    settles_ready c.args.self.now c.put_over.new.buffer c.header-header.result c.piece-piece.result c.requires c.piece-piece.ensures.value
    (ap (λ (xs : List ℕ). length xs) c.header-header.ensures) c.put_over.ensures.items
