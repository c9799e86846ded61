use Rattle.std.proofs.Common.{◌≡◌, sym, string_bytes, arith}
use Rattle.target_replay.proofs.Connections.{gone_below, print_none, print_next, pass_one, print_all}
use Rattle.target_replay.proofs.printing.print.Goals as goal
use Rattle.target_replay.proofs.printing.print.Goals.{then-is_open+in_ok-print_connection, else-is_open}

pub loop-c-init : goal.loop-c-init
loop-c-init g c = record {
  printed = rw c.new-text.ensures.bytes (λ s sent h stands. print_none s sent h c.args.target.now stands);
  each = λ target sound. sound;
  sure = λ sure. sure;
}

pub loop-c-preserved : goal.loop-c-preserved
loop-c-preserved g c =
    let at = c.loop-c.c in
    elim c.if-is_open.branch [
      | then-is_open+in_ok-print_connection w ↦
          rw (w.target-is, w.text-is) record {
            printed = λ s sent h stands.
                (let so_far = c.loop-c.invariant.printed s sent h stands in
                print_next s sent h at (string_bytes c.loop-c.text) (string_bytes w.print_connection.new.text) c.loop-c.target
                w.print_connection.new.target so_far
                (w.in_ok-print_connection.ensures.prints s so_far.sent (gone_below s h at) so_far.stands));
            each = λ target sound. c.loop-c.invariant.each target (w.print_connection.ensures.each target sound);
            sure = λ sure. w.print_connection.ensures.sure (c.loop-c.invariant.sure sure);
          }
      | else-is_open w ↦
          rw (w.target-is, w.text-is) record {
            printed = λ s sent h stands.
                (let so_far = c.loop-c.invariant.printed s sent h stands in
                print_next s sent h at (string_bytes c.loop-c.text) (string_bytes c.loop-c.text) c.loop-c.target c.loop-c.target so_far
                (pass_one s so_far.sent (gone_below s h at) at (string_bytes c.loop-c.text) c.loop-c.target c.loop-c-test.true so_far.stands
                (sym w.if-is_open.ensures)));
            each = c.loop-c.invariant.each;
            sure = c.loop-c.invariant.sure;
          }
    ]

pub returns-clause-prints : goal.returns-clause-prints
returns-clause-prints g c = λ s sent h stands.
    (let all : c.loop-c.c ≡ 64 = omega (arith, c.loop-c-test.false) in
    let so_far = c.loop-c.invariant.printed s sent h stands in
    print_all s sent h (string_bytes c.loop-c.text) c.loop-c.target (rw all at so_far))

pub returns-in_err-print_connection-clause-sure : goal.returns-in_err-print_connection-clause-sure
returns-in_err-print_connection-clause-sure g c = λ sure. c.print_connection.ensures.sure (c.loop-c.invariant.sure sure)

pub returns-in_err-print_connection-clause-each : goal.returns-in_err-print_connection-clause-each
returns-in_err-print_connection-clause-each g c = λ target sound. c.loop-c.invariant.each target (c.print_connection.ensures.each target sound)
