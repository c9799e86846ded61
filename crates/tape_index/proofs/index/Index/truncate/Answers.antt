use Rattle.std.proofs.Common.{take, ap, arith}
use Rattle.tape_index.specs.Runs.{no_run, sizes_of}
use Rattle.tape_index.specs.declared.run.Run.{Run}
use Rattle.tape_index.proofs.Runs.{AreThose, are_all, cut_in}
use Rattle.tape_index.proofs.index.Index.truncate.Goals as goal

pub place_of-end-requires : goal.place_of-end-requires
place_of-end-requires c = omega (arith, c.count.ensures, c.if-count.false)

pub run_of-i-requires : goal.run_of-i-requires
run_of-i-requires c =
    let less = rw (← c.self.view_is) at c.count.ensures in
    rw c.deref.ensures.value (omega (arith, less, (are_all c.self.inside.runs.items c.self.invariant).count))

is_cut : (c : goal.After-push_reserved) → AreThose c.push_reserved.new.self.items (take c.args.count (sizes_of no_run c.self.inside.runs.items))
is_cut c =
    let runs = c.self.inside.runs.items in
    let found = rw c.deref.ensures.value at c.run_of-i.ensures in
    let run = rw c.deref-2.ensures.value at c.run_before-size.ensures in
    let end = rw (← c.self.view_is) at c.place_of-end.ensures in
    let new : Run = record { count = c.args.count; end = c.place_of-end.result; size = c.run_before-size.result.size } in
    rw (c.push_reserved.ensures.items, c.truncate.ensures.items)
    (cut_in runs c.run_of-i.result new c.self.invariant found.within (omega (arith, found.from)) (omega (arith, found.to))
    (ap (λ (r : Run). r.size) run) end)

pub invariant_of-self-2 : goal.invariant_of-self-2
invariant_of-self-2 c = (is_cut c).are

pub returns-clause-sizes : goal.returns-clause-sizes
returns-clause-sizes c = rw (← c.self.view_is) (is_cut c).sizes_are
