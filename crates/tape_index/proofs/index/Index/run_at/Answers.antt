use Rattle.std.proofs.Common.{arith}
use Rattle.tape_index.proofs.Runs.{are_all, around}
use Rattle.tape_index.proofs.index.Index.run_at.Goals as goal

pub run_of-i-requires : goal.run_of-i-requires
run_of-i-requires c =
    let some = rw (← c.self.view_is) at c.requires in
    rw c.deref.ensures.value (omega (arith, (are_all c.self.inside.runs.items c.self.invariant).count))

pub returns : goal.returns
returns c =
    let found = rw c.deref.ensures.value at c.run_of-i.ensures in
    let run = rw c.deref-2.ensures.value at c.run_before-run.ensures in
    let before = rw c.deref-3.ensures.value at c.run_before.ensures in
    rw (← c.self.view_is) (around c.self.inside.runs.items c.run_of-i.result c.args.number c.run_before.result c.run_before-run.result c.self.invariant
    found.within before run found.from found.to)
