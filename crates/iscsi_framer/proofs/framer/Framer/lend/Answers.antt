use Rattle.std.proofs.Common.{◌≡◌, ℕ, ◌+◌, ◌<◌, List, ◌++◌, length, refl, sym, ap, ◌∙◌, subst, arith, rules, length-append}
use Rattle.iscsi_pdu.specs.Parts.{HoldsOne}
use Rattle.iscsi_pdu.proofs.Fields.{fields}
use Rattle.iscsi_framer.proofs.Taking.{Begun, Counted, forgotten, lends, lends_one, lends_nothing, lends_nothing_one, ends}
use Rattle.iscsi_pdu.proofs.DataOuts.{one_nothing}
use Rattle.std.proofs.lemmas.Grind.{common_steps}
use Rattle.iscsi_framer.proofs.framer.Framer.lend.Goals as goal

pub forget-requires : goal.forget-requires
forget-requires c =
    let f = fields c.args.self.now c.args.header c.requires.header in
    let few : c.additional_length-start.result < 65536 = search rules in
    let is : length (c.self.inside.header.items ++ c.self.inside.behind) ≡ length c.args.self.now = ap (λ (x : List ℕ). length x) c.self.view_is in
    let sum = length-append c.self.inside.header.items c.self.inside.behind in
    omega (arith, few, is, sum, f.framed)

pub returns-then-count-gt0-clause-part : goal.returns-then-count-gt0-clause-part
returns-then-count-gt0-clause-part c =
    let b : Begun c.args.self.now c.args.header =
    record { there = c.requires.there; header_is = c.requires.header; short = c.requires.short; within = c.requires.within } in
    let n : Counted c.args.self.now c.args.header c.args.more.now c.min-skipped.result c.min-count.result =
    record { skipped_is = omega arith; count_is = omega arith } in
    let view = forgotten c.self.inside.header.items c.self.inside.behind c.args.self.now c.forget.new.self (c.min-skipped.result + c.min-count.result)
    c.self.view_is c.self.invariant c.requires.there
    c.forget.ensures in
    record {
      used_is = omega arith;
      brings = rw view (lends c.args.self.now c.args.header c.args.more.now c.min-skipped.result c.min-count.result
          (c.min-skipped.result + c.min-count.result) b c.requires.out n (omega arith) refl);
    }

pub returns-then-count-gt0-clause-one : goal.returns-then-count-gt0-clause-one
returns-then-count-gt0-clause-one c =
    let b : Begun c.args.self.now c.args.header =
    record { there = c.requires.there; header_is = c.requires.header; short = c.requires.short; within = c.requires.within } in
    let n : Counted c.args.self.now c.args.header c.args.more.now c.min-skipped.result c.min-count.result =
    record { skipped_is = omega arith; count_is = omega arith } in
    let view = forgotten c.self.inside.header.items c.self.inside.behind c.args.self.now c.forget.new.self (c.min-skipped.result + c.min-count.result)
    c.self.view_is c.self.invariant c.requires.there
    c.forget.ensures in
    subst HoldsOne (sym view)
    (lends_one c.args.self.now c.args.header c.args.more.now c.min-skipped.result c.min-count.result (c.min-skipped.result + c.min-count.result) b
    c.requires.out n (omega arith) refl)

pub overflow_sub-whole : goal.overflow_sub-whole
overflow_sub-whole c =
    let f = fields c.args.self.now c.args.header c.requires.header in
    omega (arith, f.framed)

pub forget-requires-then-had-used : goal.forget-requires-then-had-used
forget-requires-then-had-used c =
    let f = fields c.args.self.now c.args.header c.requires.header in
    let few : c.additional_length-start.result < 65536 = search rules in
    let is : length (c.self.inside.header.items ++ c.self.inside.behind) ≡ length c.args.self.now = ap (λ (x : List ℕ). length x) c.self.view_is in
    let sum = length-append c.self.inside.header.items c.self.inside.behind in
    omega (arith, few, is, sum, f.framed)

pub returns-then-had-used-clause-part : goal.returns-then-had-used-clause-part
returns-then-had-used-clause-part c =
    let b : Begun c.args.self.now c.args.header =
    record { there = c.requires.there; header_is = c.requires.header; short = c.requires.short; within = c.requires.within } in
    let n : Counted c.args.self.now c.args.header c.args.more.now c.min-skipped.result c.min-count.result =
    record { skipped_is = omega arith; count_is = omega arith } in
    let view = forgotten c.self.inside.header.items c.self.inside.behind c.args.self.now c.forget-then-had-used.new.self (c.min-used.result)
    c.self.view_is c.self.invariant c.requires.there
    c.forget-then-had-used.ensures in
    record {
      used_is = omega arith;
      brings = rw view (lends_nothing c.args.self.now c.args.header c.args.more.now c.min-skipped.result c.min-count.result c.min-used.result
          b c.requires.out n (omega arith) (omega arith) (omega arith));
    }

pub returns-then-had-used-clause-one : goal.returns-then-had-used-clause-one
returns-then-had-used-clause-one c =
    let b : Begun c.args.self.now c.args.header =
    record { there = c.requires.there; header_is = c.requires.header; short = c.requires.short; within = c.requires.within } in
    let view = forgotten c.self.inside.header.items c.self.inside.behind c.args.self.now c.forget-then-had-used.new.self (c.min-used.result)
    c.self.view_is c.self.invariant c.requires.there
    c.forget-then-had-used.ensures in
    subst HoldsOne (sym view) (lends_nothing_one c.args.self.now c.args.header c.args.more.now c.min-used.result b c.requires.out (omega arith) (omega arith))

pub returns-clause-part : goal.returns-clause-part
returns-clause-part c =
    let b : Begun c.args.self.now c.args.header =
    record { there = c.requires.there; header_is = c.requires.header; short = c.requires.short; within = c.requires.within } in
    let n : Counted c.args.self.now c.args.header c.args.more.now c.min-skipped.result c.min-count.result =
    record { skipped_is = omega arith; count_is = omega arith } in
    let none = ap (λ (x : List ℕ). x ++ c.clear-2.new.self) c.clear.ensures ∙ c.clear-2.ensures in
    record {
      used_is = omega arith;
      brings = rw none (ends c.args.self.now c.args.header c.args.more.now c.min-skipped.result c.min-count.result c.min-used.result
          b c.requires.out n (omega arith) (omega arith) (omega arith));
    }

pub returns-clause-one : goal.returns-clause-one
returns-clause-one c =
    let none = ap (λ (x : List ℕ). x ++ c.clear-2.new.self) c.clear.ensures ∙ c.clear-2.ensures in
    subst HoldsOne (sym none) one_nothing

pub invariant_of-self : goal.invariant_of-self
invariant_of-self = grind (arith, common_steps)

pub invariant_of-self-2 : goal.invariant_of-self-2
invariant_of-self-2 = grind (arith, common_steps)

pub invariant_of-self-then-had-used : goal.invariant_of-self-then-had-used
invariant_of-self-then-had-used = grind (arith, common_steps)
