use Rattle.iscsi_text.proofs.StringList.{pairs_of-append, ArePairs-append}
use Rattle.iscsi_text.proofs.list.Pairs.append.Goals as goal

pub invariant_of-self-2 : goal.invariant_of-self-2
invariant_of-self-2 c = rw c.in_ok-append.ensures.added (ArePairs-append _ _ c.self.invariant c.more.invariant)

pub returns-clause-added : goal.returns-clause-added
returns-clause-added c = rw (c.in_ok-append.ensures.added, ← c.self.view_is, ← c.more.view_is)
    (pairs_of-append _ _ c.self.invariant)
