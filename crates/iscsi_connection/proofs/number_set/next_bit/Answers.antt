use Rattle.std.proofs.Common.{◌/◌, ◌^◌, ◌<◌, arith}
use Rattle.iscsi_connection.proofs.NumberSet.{none_behind, none_before, found_within}
use Rattle.iscsi_connection.proofs.number_set.next_bit.Goals as goal

pub returns-then-rest-eq0-clause-none : goal.returns-then-rest-eq0-clause-none
returns-then-rest-eq0-clause-none c = λ d from below. none_behind c.args.bits c.args.from d c.if-rest-eq0.true from

pub returns-clause-found : goal.returns-clause-found
returns-clause-found c =
    let small : c.args.bits < 2 ^ 64 = (let fits = c.ranges.bits in omega (arith, fits)) in
    let some : 0 < c.args.bits / 2 ^ c.args.from = (let differ = c.if-rest-eq0.false in omega (arith, differ)) in
    (omega arith, found_within c.args.bits c.args.from small some)

pub returns-clause-before : goal.returns-clause-before
returns-clause-before c =
    let small : c.args.bits < 2 ^ 64 = (let fits = c.ranges.bits in omega (arith, fits)) in
    let some : 0 < c.args.bits / 2 ^ c.args.from = (let differ = c.if-rest-eq0.false in omega (arith, differ)) in
    λ d from below. none_before c.args.bits c.args.from d small some from below
