use Rattle.std.proofs.Common.{refl, arith, Option, ℕ}
use Rattle.std.specs.Prelude.{is_some}
use Rattle.iscsi_requests.proofs.Lines.{turns, moves_on}
use Rattle.std.proofs.lemmas.List.Sums.{prefix_len-le-length}
use Rattle.iscsi_requests.proofs.request_queue.take_ready.Goals as goal

pub loop-key-init : goal.loop-key-init
loop-key-init c = record { same = refl; room = omega (arith, prefix_len-le-length (λ (k : Option ℕ). is_some k) c.args.window.now.keys) }

pub loop-key-smaller : goal.loop-key-smaller
loop-key-smaller c = grind (arith, turns)

pub loop-key-preserved : goal.loop-key-preserved
loop-key-preserved c = grind (arith, turns, moves_on)
