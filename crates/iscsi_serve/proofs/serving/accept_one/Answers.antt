use Rattle.std.proofs.Common.{◌<◌, arith, refl}
use Rattle.iscsi_ports.specs.Log.{Open, Close, NobodyCame, AcceptFailed}
use Rattle.iscsi_serve.proofs.Goings.{nobody, somebody, too_many}
use Rattle.iscsi_target.specs.History as history
use Rattle.iscsi_serve.specs.Served.{MayHappen, MayComeOut}
use Rattle.iscsi_serve.proofs.Keeping.{keeps_then, keeps_told, open_stays, plain_happens, plain_comes_out}
use Rattle.iscsi_serve.proofs.serving.accept_one.Goals as goal

pub returns-in-Err-clause-keeps : goal.returns-in-Err-clause-keeps
returns-in-Err-clause-keeps g c = keeps_told _ _ _ _ _ AcceptFailed refl (λ rows. refl) c.in-Err.ensures.back c.in-Err.ensures.log

pub returns-in-Ok-Nobody-clause-ok : goal.returns-in-Ok-Nobody-clause-ok
returns-in-Ok-Nobody-clause-ok g c = λ tells. nobody _ _ _ (rw c.in-Ok-Nobody.field-0-is at (c.in-Ok-Nobody.ensures.log tells))

pub returns-in-Ok-Nobody-clause-keeps : goal.returns-in-Ok-Nobody-clause-keeps
returns-in-Ok-Nobody-clause-keeps g c =
    keeps_told _ _ _ _ _ NobodyCame refl (λ rows. refl) c.accept.ensures.back
    (λ tells. rw c.in-Ok-Nobody.field-0-is at (c.in-Ok-Nobody.ensures.log tells))

pub returns-then-c-eq-CONNECTIONS-clause-ok : goal.returns-then-c-eq-CONNECTIONS-clause-ok
returns-then-c-eq-CONNECTIONS-clause-ok g c = λ tells.
    too_many _ _ _ _ _ c.if-c-eq-CONNECTIONS.true c.free_number-c.ensures.value
    (rw c.in-Ok-Connection.field-0-is at (c.in-Ok-Connection.ensures.log (c.close.ensures.back tells))) (c.close.ensures.log tells)

pub returns-then-c-eq-CONNECTIONS-clause-keeps : goal.returns-then-c-eq-CONNECTIONS-clause-keeps
returns-then-c-eq-CONNECTIONS-clause-keeps g c =
    keeps_then _ _ _ _ _ _ _ _ _
    (keeps_told _ _ _ _ _ (Open 64) refl (λ rows. refl) c.accept.ensures.back
    (λ tells. rw (c.in-Ok-Connection.field-0-is, c.if-c-eq-CONNECTIONS.true) at (c.in-Ok-Connection.ensures.log tells)))
    (keeps_told _ _ _ _ _ (Close 64) refl (λ rows. refl) c.close.ensures.back (λ tells. rw c.if-c-eq-CONNECTIONS.true at (c.close.ensures.log tells)))

pub returns-else-is_err-clause-ok : goal.returns-else-is_err-clause-ok
returns-else-is_err-clause-ok g c = λ tells.
    somebody _ _ _ _ _ (omega (arith, c.free_number-c.ensures.range, c.if-c-eq-CONNECTIONS.false)) c.free_number-c.ensures.value
    (rw c.in-Ok-Connection.field-0-is at (c.in-Ok-Connection.ensures.log tells)) c.open.ensures.now

pub returns-else-is_err-clause-keeps : goal.returns-else-is_err-clause-keeps
returns-else-is_err-clause-keeps g c =
    let lt : c.free_number-c.result < 64 = omega (arith, c.free_number-c.ensures.range, c.if-c-eq-CONNECTIONS.false) in
    record {
      back = c.accept.ensures.back;
      each = c.open.ensures.each;
      sure = c.open.ensures.sure;
      served = λ tells sound.
          open_stays MayHappen _ _ _ _ _ (plain_happens _) lt (c.free_number-c.ensures.free lt)
          (rw c.in-Ok-Connection.field-0-is at (c.in-Ok-Connection.ensures.log tells)) c.open.ensures.always;
      came = λ tells.
          open_stays (MayComeOut c.open.new.self) _ _ _ _ _ (plain_comes_out c.open.new.self (history.Open c.free_number-c.result)) lt
          (c.free_number-c.ensures.free lt) (rw c.in-Ok-Connection.field-0-is at (c.in-Ok-Connection.ensures.log tells)) c.open.ensures.always;
      bounded = c.open.ensures.bounded;
    }
