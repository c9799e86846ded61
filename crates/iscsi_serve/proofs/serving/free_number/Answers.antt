use Rattle.std.proofs.Common.{ℕ, Option, ◌≡◌, not, ap, sym, arith}
use Rattle.std.specs.Prelude.{unwrap_or}
use Rattle.iscsi_target.specs.Machine.{is_open_at}
use Rattle.iscsi_serve.specs.Turn.{free_number}
use Rattle.iscsi_ports.proofs.Numbers.{free_here, free_next}
use Rattle.iscsi_serve.proofs.serving.free_number.Goals as goal

pub returns-then-not-is_open-clause-value : goal.returns-then-not-is_open-clause-value
unfolding free_number
returns-then-not-is_open-clause-value g c =
    free_here (λ d. not (is_open_at c.args.target.now d)) c.loop-c.c c.loop-c-test.true (ap not (sym c.if-not-is_open.ensures)) c.loop-c.invariant

pub loop-c-preserved : goal.loop-c-preserved
loop-c-preserved g c =
    free_next (λ d. not (is_open_at c.args.target.now d)) c.loop-c.c c.loop-c-test.true (ap not (sym c.if-not-is_open.ensures)) c.loop-c.invariant

pub returns-clause-value : goal.returns-clause-value
unfolding free_number
returns-clause-value g c =
    let all : c.loop-c.c ≡ 64 = omega (arith, c.loop-c-test.false, c.loop-c.auto.c-end) in
    sym (ap (λ (o : Option ℕ). unwrap_or o 64) (rw all at c.loop-c.invariant))
