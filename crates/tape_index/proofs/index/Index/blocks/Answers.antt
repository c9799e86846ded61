use Rattle.std.proofs.Common.{◌+◌, arith}
use Rattle.std.proofs.lemmas.List.{length-drop}
use Rattle.tape_index.proofs.SizeFixed.{given_run, given_to_mark, given_to_other}
use Rattle.tape_index.proofs.index.Index.blocks.Goals as goal

pub returns-then-length-eq0 : goal.returns-then-length-eq0
returns-then-length-eq0 c =
    let are = rw c.from.ensures at c.in-Some.ensures in
    record {
      read = given_to_mark c.args.count c.args.block_length c.args.from c.loop-given.given c.args.self.now.sizes c.in-Some.ahead c.loop-given.invariant.is
          c.loop-given-test.true are (omega (arith, are.least, c.if-length-eq0.true));
      passed = omega (arith, are.can, are.some);
    }

pub returns-then-length-block_length : goal.returns-then-length-block_length
returns-then-length-block_length c =
    let are = rw c.from.ensures at c.in-Some.ensures in
    record {
      read = given_to_other c.args.count c.args.block_length c.args.from c.loop-given.given c.args.self.now.sizes c.in-Some.ahead c.loop-given.invariant.is
          c.loop-given-test.true are (omega (arith, are.least, c.if-length-eq0.false))
          (λ same. c.if-length-block_length.true (omega (arith, same)));
      passed = omega (arith, are.can, are.some);
    }

pub loop-given-preserved : goal.loop-given-preserved
loop-given-preserved c =
    let sizes = c.args.self.now.sizes in
    let kept = c.loop-given.invariant in
    let are = rw c.from.ensures at c.in-Some.ensures in
    let many = are.many in
    let rest = length-drop (c.args.from + c.loop-given.given) sizes in
    record {
      few = omega (arith, kept.few, c.min.ensures, c.from-in-loop-given.ensures, c.loop-given-test.true);
      within = omega (arith, c.min.ensures, many, rest, kept.within);
      number = omega (arith, c.min.ensures, are.can);
      is = given_run c.args.count c.args.block_length c.args.from c.loop-given.given c.min.result sizes c.in-Some.ahead kept.is are
          (omega (arith, are.least, c.if-length-eq0.false)) (omega (arith, are.least, c.if-length-block_length.false))
          (omega (arith, c.min.ensures)) (omega (arith, c.min.ensures, c.from-in-loop-given.ensures));
    }
