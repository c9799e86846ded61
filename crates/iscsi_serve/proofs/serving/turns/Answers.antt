use Rattle.std.proofs.Common.{◌∙◌, refl, sym, ap, append-nil, Err}
use Rattle.std.proofs.lemmas.Result.{err_from_is_err_and}
use Rattle.iscsi_serve.specs.Turn.{beginning}
use Rattle.iscsi_serve.proofs.Keeping.{keeps_same, keeps_then}
use Rattle.iscsi_serve.proofs.Turning.{turn_next, turns_end}
use Rattle.iscsi_serve.proofs.serving.turns.Goals as goal

pub loop-init : goal.loop-init
loop-init g c = record {
  turned = λ tells. (beginning c.args.target.now (g.P.Ports.log c.args.ports.now), sym (append-nil (g.P.Ports.log c.args.ports.now)), refl, refl);
  keeps = keeps_same _ _ _;
}

pub loop-preserved : goal.loop-preserved
loop-preserved g c = record {
  turned = λ tells.
      (let so_far = c.loop.invariant.turned (c.turn_with.ensures.keeps.back tells) in
      let turn = c.in_ok-turn_with.ensures.turned tells in
      (turn.0, turn.1, turn.2, turn_next c.loop.counter _ so_far.0 turn.0 _ _ so_far.1 so_far.2 so_far.3 turn.3));
  keeps = keeps_then _ _ _ _ _ _ _ _ _ c.loop.invariant.keeps c.turn_with.ensures.keeps;
}

pub returns-in_err-turn_with : goal.returns-in_err-turn_with
returns-in_err-turn_with g c =
    let keeps = keeps_then _ _ _ _ _ _ _ _ _ c.loop.invariant.keeps c.turn_with.ensures.keeps in
    record {
      turned = λ tells.
          (let so_far = c.loop.invariant.turned (c.turn_with.ensures.keeps.back tells) in
          let turn = c.in_err-turn_with.ensures.turned tells in
          let fault = err_from_is_err_and c.from_residual.result c.from_residual.ensures.1 in
          let is = fault.1 ∙ ap Err fault.2 in (
            turn.0,
            turn.1,
            turn.2,
            turns_end c.args.count c.loop.counter _ so_far.0 turn.0 _ _ c.in_err-turn_with.field-0.0 c.from_residual.result is so_far.1 so_far.2
                c.loop-test.true so_far.3 turn.3,
          ));
      served = keeps.served;
      came = keeps.came;
      bounded = keeps.bounded;
      back = keeps.back;
      each = keeps.each;
      sure = keeps.sure;
    }
