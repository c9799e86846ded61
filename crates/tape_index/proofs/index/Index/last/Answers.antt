use Rattle.std.proofs.Common.{◌≡◌, length, ap, arith}
use Rattle.tape_index.proofs.Runs.{is_last}
use Rattle.tape_index.proofs.index.Index.last.Goals as goal

pub returns : goal.returns
returns c =
    let long : c.len.result ≡ length c.self.inside.runs.items = omega (arith, ap length c.deref.ensures.value) in
    let last = rw (c.deref.ensures.value, long) at c.run_before.ensures in
    rw (← c.self.view_is) (is_last c.self.inside.runs.items c.run_before.result c.self.invariant last)
