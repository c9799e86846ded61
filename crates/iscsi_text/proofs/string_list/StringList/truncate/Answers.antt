use Rattle.std.proofs.Common.{arith, sym}
use Rattle.std.proofs.lemmas.List.{take_all}
use Rattle.iscsi_text.proofs.StringList.{length-strings_in, splits_at, AreEnds-take, strings_in-take}
use Rattle.iscsi_text.proofs.string_list.StringList.truncate.Goals as goal

pub truncate-requires : goal.truncate-requires
truncate-requires c = rw c.start_of.ensures (λ _. splits_at _ _ _ c.self.invariant (omega (arith, c.len.ensures.value)))

pub invariant_of-self : goal.invariant_of-self
invariant_of-self c = rw (c.truncate.ensures.bytes, c.truncate-then-count-len.ensures, c.start_of.ensures)
    (AreEnds-take _ _ _ c.self.invariant (omega (arith, c.len.ensures.value)))

pub returns-then-count-len : goal.returns-then-count-len
returns-then-count-len c = rw (c.truncate.ensures.bytes, c.truncate-then-count-len.ensures, c.start_of.ensures, ← c.self.view_is)
    (strings_in-take _ _ _ c.self.invariant (omega (arith, c.len.ensures.value)))

pub returns-else-count-len : goal.returns-else-count-len
returns-else-count-len c = rw (← c.self.view_is)
    (sym (take_all c.args.count _ (rw length-strings_in (omega (arith, c.len.ensures.value)))))
