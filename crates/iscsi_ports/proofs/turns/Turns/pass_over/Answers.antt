use Rattle.std.proofs.Common.{◌≡◌, ◌+◌, ◌-◌, ◌&&◌, length, Bool, true, false, sym, ap, ◌∙◌, arith}
use Rattle.std.specs.List.{filter, range_with_len}
use Rattle.iscsi_ports.specs.Turns.{is_due}
use Rattle.iscsi_ports.proofs.TakingTurns.{counted_here, counted_next, passed_more}
use Rattle.iscsi_ports.specs.Flags.{flag_of}
use Rattle.iscsi_ports.proofs.turns.Turns.pass_over.Goals as goal
use Rattle.iscsi_ports.proofs.turns.Turns.pass_over.Goals.{then-named-c, else-named-c}

pub loop-c-preserved : goal.loop-c-preserved
loop-c-preserved c =
    let before = c.args.named.now in
    let long = c.args.self.now.long in
    let i = c.loop-c.c in
    let P = is_due before c.args.self.now in
    let here : flag_of i c.loop-c.named ≡ flag_of i before = c.loop-c.invariant.passed.ahead i (omega arith) in
    let due : (b : Bool) → (flag_of i c.loop-c.named && flag_of i long) ≡ b → P i ≡ b =
    λ b e. ap (λ f. f && flag_of i long) (sym here) ∙ e in
    let left = length (filter P (range_with_len (i + 1) (64 - (i + 1)))) in
    let was = c.loop-c.invariant.count in
    let passed = passed_more before long c.loop-c.named i (omega (arith, c.loop-c-test.true)) c.loop-c.invariant.passed in
    elim c.if-named-c.branch [
      | then-named-c w ↦
          let counted = counted_here P i c.loop-c-test.true (due true w.if-named-c.true) in
          record {
            count = omega (arith, was, counted, w.count-is);
            few = omega (arith, c.loop-c.invariant.few, w.count-is);
            passed = passed;
          }
      | else-named-c w ↦
          let counted = counted_next P i c.loop-c-test.true (due false w.if-named-c.false) in
          record {
            count = omega (arith, was, counted, w.count-is);
            few = omega (arith, c.loop-c.invariant.few, w.count-is);
            passed = passed;
          }
    ]

pub returns-clause-count : goal.returns-clause-count
returns-clause-count c =
    let done : c.loop-c.c ≡ 64 = omega (arith, c.loop-c-test.false, c.loop-c.auto.c-end) in
    let all = c.loop-c.invariant.count in
    omega (arith, (rw done at all))
