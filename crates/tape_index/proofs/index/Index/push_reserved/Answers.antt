use Rattle.std.proofs.Common.{◌++◌, ◌+◌, ◌-◌, ◌*◌, ap, sym, ◌∙◌, arith}
use Rattle.std.specs.Prelude.{replicate}
use Rattle.tape_index.specs.Runs.{no_run, sizes_of}
use Rattle.tape_index.specs.declared.run.Run.{Run}
use Rattle.tape_index.proofs.Runs.{AreThose, grown, grown_last}
use Rattle.std.proofs.lemmas.Grind.{common_steps}
use Rattle.tape_index.proofs.index.Index.push_reserved.Goals as goal
use Rattle.tape_index.proofs.index.Index.push_reserved.Goals.{then-last-size, else-last-size}

is_grown : (c : goal.After-push_reserved) → AreThose c.push_reserved.new.self.items (sizes_of no_run c.self.inside.runs.items ++ replicate c.args.many c.args.size)
is_grown c =
    let runs = c.self.inside.runs.items in
    let last = rw (← c.self.view_is) at c.last-last.ensures in
    let times = ap (λ n. c.args.many * n) c.from.ensures in
    let run : Run = record { count = c.last-last.result.count + c.args.many; end = c.last-last.result.end + c.args.many * c.from.result; size = c.args.size } in
    rw c.push_reserved.ensures.items (elim c.if-last-size.branch [
      | then-last-size w ↦
          rw (w.self-inside-is, w.pop.ensures.rest)
          (grown_last runs (c.self.inside.runs.len - 1) c.args.many run c.self.invariant (omega (arith, c.self.inside.runs.ok.0)) (sym last.size ∙ w.if-last-size.true) c.requires.least (omega (arith, last.count)) (omega
          (arith, last.end, times)))
      | else-last-size w ↦
          rw w.self-inside-is
          (grown runs run c.args.many c.self.invariant c.requires.some (omega (arith, last.count)) (omega (arith, last.end, times)) c.requires.least
          c.requires.most)
    ])

pub invariant_of-self : goal.invariant_of-self
invariant_of-self c = (is_grown c).are

pub returns-clause-sizes : goal.returns-clause-sizes
returns-clause-sizes c = rw (← c.self.view_is) (is_grown c).sizes_are

pub returns-clause-joined : goal.returns-clause-joined
returns-clause-joined = grind (arith, common_steps)

pub returns-clause-room : goal.returns-clause-room
returns-clause-room = grind (arith, common_steps)
