use Rattle.std.proofs.Common.{sym}
use Rattle.iscsi_serve.proofs.Goings.{free_close, open_close, close_due}
use Rattle.iscsi_target.specs.History as history
use Rattle.iscsi_serve.specs.Served.{MayHappen, MayComeOut}
use Rattle.iscsi_serve.proofs.Keeping.{keeps_same, close_stays, plain_happens, plain_comes_out}
use Rattle.iscsi_serve.proofs.serving.close_one.Goals as goal

pub returns-then-not-is_open : goal.returns-then-not-is_open
returns-then-not-is_open g c = record {
  keeps = keeps_same _ _ _;
  goes = λ tells.
      free_close _ c.args.target.now c.args.ended.now c.args.c (sym c.if-not-is_open.ensures);
}

pub returns-then-is_done : goal.returns-then-is_done
returns-then-is_done g c = record {
  keeps = record {
    back = c.close.ensures.back;
    each = c.gone.ensures.each;
    sure = c.gone.ensures.sure;
    served = λ tells sound. close_stays MayHappen _ _ _ _ _ (plain_happens _) c.requires (c.close.ensures.log tells) c.gone.ensures.always;
    came = λ tells.
        close_stays (MayComeOut c.gone.new.self) _ _ _ _ _ (plain_comes_out c.gone.new.self (history.Gone c.args.c)) c.requires
        (c.close.ensures.log tells) c.gone.ensures.always;
    bounded = c.gone.ensures.bounded;
  };
  goes = λ tells. close_due _ _ _ _ _ _ c.requires (sym c.if-not-is_open.ensures) (sym c.if-is_done.ensures) (c.close.ensures.log tells) c.gone.ensures.now;
}

pub returns-else-is_done : goal.returns-else-is_done
returns-else-is_done g c = record {
  keeps = keeps_same _ _ _;
  goes = λ tells.
      open_close _ c.args.target.now c.args.ended.now c.args.c c.requires (sym c.if-is_done.ensures);
}
