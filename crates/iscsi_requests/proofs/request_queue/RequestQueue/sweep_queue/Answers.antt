use Rattle.std.proofs.Common.{◌≡◌, ℕ, suc, ◌+◌, ◌-◌, subst, arith}
use Rattle.iscsi_requests.proofs.Voiding.{Swept, sweep_goes_on}
use Rattle.iscsi_requests.proofs.request_queue.RequestQueue.sweep_queue.Goals as goal

pub loop-preserved : goal.loop-preserved
loop-preserved c =
    let left = c.queued-end.result - (c.loop.counter + 1) in
    let one : c.queued-end.result - c.loop.counter ≡ suc left = omega (arith, c.loop-test.true) in
    sweep_goes_on c.args.reach.now c.args.self.now c.loop.self c.turn_queue.new.self left
    (subst (λ (n : ℕ). Swept c.args.reach.now c.args.self.now c.loop.self n) one c.loop.invariant) c.turn_queue.ensures
