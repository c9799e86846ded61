use Rattle.std.proofs.Common.{◌++◌, take}
use Rattle.std.proofs.KnownBytes.{Appends-trans, Appends-kept}
use Rattle.target_replay.proofs.Texts.{written_more}
use Rattle.target_replay.proofs.printing.print_all.Goals as goal
use Rattle.target_replay.proofs.printing.print_all.Goals.{in-Ok, in-Err}

pub loop-preserved : goal.loop-preserved
loop-preserved g c =
    let so_far = c.loop.invariant in
    elim c.match-write.branch [
      | in-Ok w ↦
          let more = take w.in-Ok.count c.loop.rest.now in
          rw w.rest-is (
            so_far.0 ++ more,
            written_more c.args.text.now so_far.0 c.loop.rest.now w.in-Ok.count so_far.1,
            Appends-trans _ _ _ so_far.0 more so_far.2 w.in-Ok.ensures.bytes,
          )
      | in-Err w ↦ rw w.rest-is (so_far.0, so_far.1, Appends-kept _ _ _ so_far.0 so_far.2 w.in-Err.ensures.bytes)
    ]
