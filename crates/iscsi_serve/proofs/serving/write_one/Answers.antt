use Rattle.std.proofs.Common.{refl, sym}
use Rattle.iscsi_serve.proofs.Closing.{others_same, none_free, due_open, due_silent}
use Rattle.iscsi_serve.proofs.Goings.{free_write, silent_write}
use Rattle.iscsi_serve.proofs.Keeping.{keeps_same}
use Rattle.iscsi_serve.proofs.Stalled.{due_waiting, others_kept}
use Rattle.iscsi_serve.proofs.serving.write_one.Goals as goal

pub returns-then-put_off-clause-does : goal.returns-then-put_off-clause-does
returns-then-put_off-clause-does g c = rw c.note_full.ensures (c.if-put_off.ensures.does refl c.args.ended.now)

pub returns-then-put_off-clause-others : goal.returns-then-put_off-clause-others
returns-then-put_off-clause-others g c =
    others_kept c.args.target.now c.note_full.new.self c.args.ended.now c.args.c c.note_full.ensures

pub returns-then-put_off-clause-due : goal.returns-then-put_off-clause-due
returns-then-put_off-clause-due g c =
    rw c.note_full.ensures
    (due_waiting c.args.target.now c.args.ended.now c.args.c _ (c.if-put_off.ensures.open refl) (c.if-put_off.ensures.waits refl) refl)

pub returns-then-is_silent-clause-does : goal.returns-then-is_silent-clause-does
returns-then-is_silent-clause-does g c = rw (c.put_off.ensures.same c.if-put_off.false) record {
  keeps = keeps_same _ _ _;
  goes = λ tells. silent_write _ c.args.target.now c.args.ended.now c.args.c (sym c.if-is_silent.ensures);
}

pub returns-then-is_silent-clause-others : goal.returns-then-is_silent-clause-others
returns-then-is_silent-clause-others g c = others_same c.args.target.now c.args.ended.now c.args.c

pub returns-then-is_silent-clause-due : goal.returns-then-is_silent-clause-due
returns-then-is_silent-clause-due g c = due_silent c.args.target.now c.args.ended.now c.args.c _ (sym c.if-is_silent.ensures) c.has_ended.ensures

pub returns-then-not-is_open-clause-does : goal.returns-then-not-is_open-clause-does
returns-then-not-is_open-clause-does g c = rw (c.put_off.ensures.same c.if-put_off.false) record {
  keeps = keeps_same _ _ _;
  goes = λ tells. free_write _ c.args.target.now c.args.ended.now c.args.c (sym c.if-not-is_open.ensures);
}

pub returns-then-not-is_open-clause-others : goal.returns-then-not-is_open-clause-others
returns-then-not-is_open-clause-others g c = others_same c.args.target.now c.args.ended.now c.args.c

pub returns-then-not-is_open-clause-due : goal.returns-then-not-is_open-clause-due
returns-then-not-is_open-clause-due g c = none_free c.args.target.now c.args.ended.now c.args.c (sym c.if-not-is_open.ensures)

pub returns-clause-due : goal.returns-clause-due
returns-clause-due g c = due_open c.write_open.new.target c.write_open.new.ended c.args.c _ c.write_open.ensures.open c.is_done.ensures

pub returns-clause-does : goal.returns-clause-does
returns-clause-does g c = rw (c.put_off.ensures.same c.if-put_off.false) at c.write_open.ensures.does
