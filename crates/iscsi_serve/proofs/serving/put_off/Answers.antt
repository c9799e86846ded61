use Rattle.std.proofs.Common.{refl}
use Rattle.iscsi_serve.proofs.Stalled.{nothing_written}
use Rattle.iscsi_serve.proofs.serving.put_off.Goals as goal

pub returns-then-is_stalled-clause-does : goal.returns-then-is_stalled-clause-does
returns-then-is_stalled-clause-does g c = λ off ended.
    nothing_written _ _ _ _ c.args.target.now c.args.target.now ended c.args.c c.out.result.now c.requires (c.if-is_stalled.ensures.open refl)
    c.out.ensures.front c.out.ensures.ends (c.out.ensures.some (c.if-is_stalled.ensures.waits refl)) c.puts_off.ensures.back
    (λ tells. c.puts_off.ensures.log off tells) refl
