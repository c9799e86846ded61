use Rattle.std.proofs.Common.{◌≡◌, get_or, arith}
use Rattle.std.proofs.lemmas.List.{length-map}
use Rattle.scsi_disk.specs.Buffers.{rooms}
use Rattle.scsi_disk.proofs.Rooms.{room_at, least_next, least_still}
use Rattle.scsi_disk.proofs.buffers.least.Goals as goal
use Rattle.scsi_disk.proofs.buffers.least.Goals.{then-suits_better, else-suits_better}

pub loop-at-preserved : goal.loop-at-preserved
loop-at-preserved c =
    let kept = c.args.kept.now in
    let next : get_or (rooms kept) c.loop-at.at 0 ≡ (get_or kept c.loop-at.at c.index-kept-at.result).1 =
    room_at kept c.loop-at.at c.index-kept-at.result (omega arith) in
    let before : get_or (rooms kept) c.loop-at.found 0 ≡ (get_or kept c.loop-at.found c.index-kept-found.result).1 =
    room_at kept c.loop-at.found c.index-kept-found.result (omega arith) in
    elim c.if-suits_better.branch [
      | then-suits_better w ↦ rw w.found-is (
        omega arith,
        least_next c.args.room (rooms kept) c.loop-at.at c.loop-at.found
            (let enough = c.suits_better.ensures.enough w.if-suits_better.true in omega arith)
            (λ has. let smaller = c.suits_better.ensures.smaller w.if-suits_better.true (omega arith) in omega arith)
            c.loop-at.invariant.1,
      )
      | else-suits_better w ↦ rw w.found-is (
        omega arith,
        least_still c.args.room (rooms kept) c.loop-at.at c.loop-at.found
            (λ has. let worse = c.suits_better.ensures.no w.if-suits_better.false (omega arith) in
            (omega arith, omega arith))
            c.loop-at.invariant.1,
      )
    ]

pub returns-clause-least : goal.returns-clause-least
returns-clause-least c =
    let all = length-map c.args.kept.now (λ each. each.1) in
    λ k within. c.loop-at.invariant.1 k (omega arith)
