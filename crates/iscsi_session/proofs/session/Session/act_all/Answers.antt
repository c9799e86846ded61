use Rattle.std.proofs.Common.{suc, ◌∙◌, arith}
use Rattle.iscsi_session.proofs.Parts.{on_err_known}
use Rattle.iscsi_session.proofs.Runs.{same_output, grows_none, grows_then}
use Rattle.iscsi_session.proofs.Settled.{none_acted, acted_more, all_acted, acting_ends, acting_stops, act_stops, acts}
use Rattle.iscsi_session.proofs.session.Session.act_all.Goals as goal

pub loop-init : goal.loop-init
loop-init c = grind (arith, none_acted, grows_none)

pub returns-in_err-act-clause-err : goal.returns-in_err-act-clause-err
returns-in_err-act-clause-err c = on_err_known _
    (act_stops c.args.luns.now c.loop.invariant.turns _ _ _ _ _ _ c.in_err-act.ensures.err
    (same_output _ _ _ _ c.in_err-act.ensures.out_err c.in_err-act.ensures.orders_err)
    (λ units numbers. acting_stops _ _ _ _ _ _ units (c.loop.invariant.ran units numbers) c.in_err-act.ensures.due))

pub returns-in-Idle-clause-ok : goal.returns-in-Idle-clause-ok
returns-in-Idle-clause-ok c units numbers =
    all_acted c.args.luns.now _ _ _ _ _ _ _ units numbers (c.loop.invariant.ran units numbers) (rw c.in-Idle.is at (acts c.in_ok-act.ensures.acts))

pub loop-preserved : goal.loop-preserved
loop-preserved c = record {
  turns = suc c.loop.invariant.turns;
  ran = grind (arith, acted_more, acts, c.loop.invariant.ran, c.in-Taken.is, c.in_ok-act.ensures.acts, c.in_ok-act.ensures.fewer);
  grows = grows_then _ _ _ c.loop.invariant.grows c.in_ok-act.ensures.grows;
  params = c.in_ok-act.ensures.params ∙ c.loop.invariant.params;
}

pub returns-in-Ended-clause-ok : goal.returns-in-Ended-clause-ok
returns-in-Ended-clause-ok c units numbers =
    acting_ends c.args.luns.now _ _ _ _ _ _ _ units numbers (c.loop.invariant.ran units numbers) (rw c.in-Ended.is at (acts c.in_ok-act.ensures.acts))
