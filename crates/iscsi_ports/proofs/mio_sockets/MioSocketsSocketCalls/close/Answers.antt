use Rattle.std.proofs.Common.{◌≡◌, ◌<◌, ◌∙◌, sym, subst, length, get_or, None, arith}
use Rattle.std.specs.Prelude.{IsSome}
use Rattle.std.proofs.lemmas.Bool.{false≢true}
use Rattle.std.proofs.lemmas.List.{get_or_read, get_or-set_same, length-set}
use Rattle.iscsi_ports.proofs.mio_sockets.MioSocketsSocketCalls.close.Goals as goal
use Rattle.iscsi_ports.proofs.mio_sockets.MioSocketsSocketCalls.close.Goals.{After-take}

in_range : (c : After-take) → c.args.c < length c.note_close.new.self.streams.items
in_range c = let le = c.requires in omega (arith, c.note_close.new.self.places)

pub invariant_of-self-clause-places : goal.invariant_of-self-clause-places
invariant_of-self-clause-places c = length-set c.note_close.new.self.streams.items c.args.c c.take.new.self ∙ c.note_close.new.self.places

pub invariant_of-self-clause-accounted : goal.invariant_of-self-clause-accounted
invariant_of-self-clause-accounted c = c.note_close.new.self.accounted

pub invariant_of-self-clause-dropped : goal.invariant_of-self-clause-dropped
invariant_of-self-clause-dropped c = c.note_close.new.self.dropped

pub invariant_of-self-in_default-clause-places : goal.invariant_of-self-in_default-clause-places
invariant_of-self-in_default-clause-places c =
    length-set c.note_close.new.self.streams.items c.args.c c.take.new.self ∙ c.note_close.new.self.places

pub returns-in-Some-clause-closed : goal.returns-in-Some-clause-closed
returns-in-Some-clause-closed c =
    get_or-set_same c.note_close.new.self.streams.items c.args.c c.take.new.self None (in_range (goal.at.returns-in-Some-clause-closed c).After-take)
    ∙ c.take.ensures.after

pub returns-in-Some-clause-begins : goal.returns-in-Some-clause-begins
returns-in-Some-clause-begins c = λ _. rw c.note_close.ensures.lingering at c.begin.ensures.begins

pub returns-in-Some-clause-others : goal.returns-in-Some-clause-others
returns-in-Some-clause-others c = rw c.note_close.ensures.lingering at c.begin.ensures.others

pub returns-in_default-clause-closed : goal.returns-in_default-clause-closed
returns-in_default-clause-closed c =
    get_or-set_same c.note_close.new.self.streams.items c.args.c c.take.new.self None (in_range (goal.at.returns-in_default-clause-closed c).After-take)
    ∙ c.take.ensures.after

pub returns-in_default-clause-begins : goal.returns-in_default-clause-begins
returns-in_default-clause-begins c =
    let streams = c.note_close.new.self.streams.items in
    let lt = in_range (goal.at.returns-in_default-clause-begins c).After-take in
    let none : get_or streams c.args.c None ≡ None =
    sym (get_or_read streams c.args.c _ lt c.index_mut.ensures.value None) ∙ sym c.take.ensures.value ∙ c.in_default.is in
    λ some. absurd (false≢true (subst IsSome none (rw (sym c.note_close.ensures.streams) at some)))
