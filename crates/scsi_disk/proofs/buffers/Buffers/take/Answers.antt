use Rattle.std.proofs.Common.{◌≡◌, length, ap, ◌∙◌, sym, arith}
use Rattle.std.proofs.lemmas.List.{length-map, map-append}
use Rattle.std.specs.Vec.{vec_capacity}
use Rattle.scsi_disk.specs.Buffers.{rooms}
use Rattle.scsi_disk.proofs.Rooms.{taken_short, taken_long}
use Rattle.std.proofs.lemmas.Grind.{common_steps}
use Rattle.scsi_disk.proofs.buffers.Buffers.take.Goals as goal
use Rattle.scsi_disk.proofs.buffers.Buffers.take.Goals.{then-is_from_short+in_ok-pop, else-is_from_short+in_ok-buffer}

pub returns-clause-taken : goal.returns-clause-taken
returns-clause-taken c =
    let short = c.self.inside.short in
    let long = c.self.inside.long in
    let all_short : length (rooms short.items) ≡ c.len.result =
    omega (arith, length-map short.items (λ each. each.1)) in
    let all_long : length (rooms long.items) ≡ c.len-2.result =
    omega (arith, length-map long.items (λ each. each.1)) in
    elim c.if-is_from_short.branch [
      | then-is_from_short+in_ok-pop w ↦ rw (← c.self.view_is, w.self-inside-is)
          (taken_short c.args.room (rooms short.items) (rooms long.items) (rooms w.pop.new.self.items)
          (vec_capacity short) (vec_capacity long) (vec_capacity w.pop.new.self) w.in_ok-pop.had c.self.inside.is_overfull
          (rw (all_short, all_long) (sym c.is_from_short.ensures ∙ w.if-is_from_short.true))
          (ap rooms w.in_ok-pop.ensures.items ∙ map-append (λ each. each.1) w.pop.new.self.items _)
          w.in_ok-pop.ensures.capacity)
      | else-is_from_short+in_ok-buffer w ↦ rw (← c.self.view_is, w.self-inside-is)
          (taken_long c.args.room (rooms short.items) (rooms long.items) (rooms w.take_least.new.kept.items)
          (vec_capacity short) (vec_capacity long) (vec_capacity w.take_least.new.kept) w.in_ok-buffer.had c.self.inside.is_overfull
          (rw (all_short, all_long) (sym c.is_from_short.ensures ∙ w.if-is_from_short.false))
          w.in_ok-buffer.ensures.taken w.in_ok-buffer.ensures.places)
    ]

pub invariant_of-self : goal.invariant_of-self
invariant_of-self = grind (arith, common_steps)

pub invariant_of-self-2 : goal.invariant_of-self-2
invariant_of-self-2 = grind (arith, common_steps)

pub invariant_of-self-in_err-buffer : goal.invariant_of-self-in_err-buffer
invariant_of-self-in_err-buffer = grind (arith, common_steps)

pub returns-in_err-buffer : goal.returns-in_err-buffer
returns-in_err-buffer = grind (arith, common_steps)

pub returns-in_err-pop : goal.returns-in_err-pop
returns-in_err-pop = grind (arith, common_steps)

pub returns-clause-none : goal.returns-clause-none
returns-clause-none = grind (arith, common_steps)
