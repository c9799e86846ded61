use Rattle.std.proofs.Common.{◌≡◌, ◌++◌, string_bytes}
use Rattle.target_replay.specs.Printed.{bytes_line}
use Rattle.target_replay.proofs.Connections.{closed_one, open_one}
use Rattle.target_replay.proofs.printing.print_connection.Goals as goal
use Rattle.target_replay.proofs.printing.print_connection.Goals.{then-closing+in_ok-print_closed, else-closing}

pub returns-clause-prints : goal.returns-clause-prints
returns-clause-prints g c = λ s sent h stands.
    (let printed : string_bytes c.print_bytes.new.text ≡ string_bytes c.args.text.now
    ++ bytes_line c.args.c c.in_ok-bytes.bytes.items = rw c.as_slice.ensures.value at c.in_ok-print_bytes.ensures in
    elim c.if-closing.branch [
      | then-closing+in_ok-print_closed w ↦
          rw (w.target-is, w.text-is)
          (closed_one s sent h c.args.c (string_bytes c.args.text.now) c.in_ok-bytes.bytes.items (string_bytes w.print_closed.new.text)
          c.args.target.now c.take_waiting.new.target w.gone.new.self c.requires.in_range stands
          c.in_ok-bytes.ensures.bytes (c.in_ok-bytes.ensures.stands s sent h stands)
          w.if-closing.ensures (rw printed at w.in_ok-print_closed.ensures) w.gone.ensures.always)
      | else-closing w ↦
          rw (w.target-is, w.text-is)
          (open_one s sent h c.args.c (string_bytes c.args.text.now) c.in_ok-bytes.bytes.items (string_bytes c.print_bytes.new.text)
          c.args.target.now c.take_waiting.new.target c.requires.in_range stands
          c.in_ok-bytes.ensures.bytes (c.in_ok-bytes.ensures.stands s sent h stands) w.if-closing.ensures printed)
    ])

pub returns-clause-each : goal.returns-clause-each
returns-clause-each g c =
    elim c.if-closing.branch [
      | then-closing+in_ok-print_closed w ↦ rw w.target-is (λ target sound. c.take_waiting.ensures.each target (w.gone.ensures.each target sound))
      | else-closing w ↦ rw w.target-is c.take_waiting.ensures.each
    ]
