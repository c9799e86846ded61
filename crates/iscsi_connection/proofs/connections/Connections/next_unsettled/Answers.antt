use Rattle.std.proofs.Common.{List, Bool, get_or, refl, sym, ap, ◌∙◌, arith}
use Rattle.iscsi_world.specs.Machine.{LinkState, free_link, is_settled}
use Rattle.iscsi_world.proofs.Lending.{get_or_any}
use Rattle.iscsi_connection.proofs.Marked.{found_of_others, passed_to, passed_with}
use Rattle.iscsi_connection.proofs.connections.Connections.next_unsettled.Goals as goal

abbrev settled : LinkState → Bool
settled link = is_settled link.phase

pub loop-c-init : goal.loop-c-init
loop-c-init c = record {
  same = refl;
  count = c.self.invariant.0;
  others = c.self.invariant.1;
  silent = c.self.invariant.2;
  stalled = c.self.invariant.3;
  counted = c.self.invariant.4;
  reached = omega arith;
  passed = λ d from below. absurd (omega (arith, from, below));
}

pub index-requires : goal.index-requires
index-requires c = (let found = c.in-Some.ensures.found in let count = c.loop-c.invariant.count in omega (arith, found.1, count))

pub loop-c-preserved : goal.loop-c-preserved
loop-c-preserved c =
    let inv = c.loop-c.invariant in
    let links = c.loop-c.self-inside.items.items in
    let k = c.in-Some.c in
    let found = c.in-Some.ensures.found in
    let count = inv.count in
    let here = ap settled (get_or_any links k free_link c.index.result.now (omega (arith, found.1, count)) ∙ sym c.index.ensures)
    ∙ sym c.is_settled.ensures ∙ c.if-not-is_settled.false in
    record {
      same = inv.same;
      count = inv.count;
      others = found_of_others settled c.loop-c.self-inside.unsettled c.remove.new.self links k here c.remove.ensures.others inv.others;
      silent = inv.silent;
      stalled = inv.stalled;
      counted = inv.counted;
      reached = (let reached = inv.reached in omega (arith, reached, found.0));
      passed = passed_with settled c.loop-c.self-inside.unsettled links c.args.from c.loop-c.at k inv.others inv.passed c.in-Some.ensures.before
          (omega (arith, found.1)) here;
    }

pub invariant_of-self : goal.invariant_of-self
invariant_of-self c = (let inv = c.loop-c.invariant in (inv.count, inv.others, inv.silent, inv.stalled, inv.counted))

pub returns-then-not-is_settled-clause-same : goal.returns-then-not-is_settled-clause-same
returns-then-not-is_settled-clause-same c = c.loop-c.invariant.same ∙ c.self.view_is

pub returns-then-not-is_settled-clause-found : goal.returns-then-not-is_settled-clause-found
returns-then-not-is_settled-clause-found c =
    (let found = c.in-Some.ensures.found in let reached = c.loop-c.invariant.reached in (omega (arith, found.0, reached), found.1))

pub returns-then-not-is_settled-clause-before : goal.returns-then-not-is_settled-clause-before
returns-then-not-is_settled-clause-before c =
    let inv = c.loop-c.invariant in
    let found = c.in-Some.ensures.found in
    let passed = passed_to settled c.loop-c.self-inside.unsettled c.loop-c.self-inside.items.items c.args.from c.loop-c.at c.in-Some.c inv.others inv.passed
    c.in-Some.ensures.before (omega (arith, found.1)) in
    λ d from below. ap (λ (links : List LinkState). settled (get_or links d free_link)) (sym (inv.same ∙ c.self.view_is)) ∙ passed d from below

pub invariant_of-self-in_default : goal.invariant_of-self-in_default
invariant_of-self-in_default c = (let inv = c.loop-c.invariant in (inv.count, inv.others, inv.silent, inv.stalled, inv.counted))

pub returns-clause-same : goal.returns-clause-same
returns-clause-same c = c.loop-c.invariant.same ∙ c.self.view_is

pub returns-clause-none : goal.returns-clause-none
returns-clause-none c =
    let inv = c.loop-c.invariant in
    let passed = passed_to settled c.loop-c.self-inside.unsettled c.loop-c.self-inside.items.items c.args.from c.loop-c.at 64 inv.others inv.passed
    c.in_default.ensures.none (omega arith) in
    λ d from below. ap (λ (links : List LinkState). settled (get_or links d free_link)) (sym (inv.same ∙ c.self.view_is)) ∙ passed d from below
