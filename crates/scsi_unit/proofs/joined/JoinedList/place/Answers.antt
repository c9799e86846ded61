use Rattle.scsi_unit.proofs.Places.{stands_there}
use Rattle.scsi_unit.proofs.joined.JoinedList.place.Goals as goal

pub returns-then-stands_at : goal.returns-then-stands_at
returns-then-stands_at c =
    let here = rw c.as_slice-joined.ensures.value at (c.stands_at.ensures.0 c.if-stands_at.true) in
    let there = stands_there c.self.inside.list.items c.args.nexus.now c.self.inside.found c.self.invariant here in
    rw (← c.self.view_is) (record { value = there.0; bound = there.1 })

pub returns-then-stands_at-2 : goal.returns-then-stands_at-2
returns-then-stands_at-2 c =
    let here = rw c.as_slice-joined.ensures.value at (c.stands_at-else-stands_at.ensures.0 c.if-stands_at-2.true) in
    let there = stands_there c.self.inside.list.items c.args.nexus.now _ c.self.invariant here in
    rw (← c.self.view_is) (record { value = there.0; bound = there.1 })
