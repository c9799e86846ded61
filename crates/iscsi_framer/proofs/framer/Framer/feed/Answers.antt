use Rattle.std.proofs.Common.{arith}
use Rattle.std.proofs.lemmas.Grind.{common_steps}
use Rattle.iscsi_framer.proofs.framer.Framer.feed.Goals as goal

pub invariant_of-self : goal.invariant_of-self
invariant_of-self = grind (arith, common_steps)

pub invariant_of-self-2 : goal.invariant_of-self-2
invariant_of-self-2 = grind (arith, common_steps)

pub invariant_of-self-in-Err : goal.invariant_of-self-in-Err
invariant_of-self-in-Err = grind (arith, common_steps)

pub invariant_of-self-in_default : goal.invariant_of-self-in_default
invariant_of-self-in_default = grind (arith, common_steps)

pub returns : goal.returns
returns = grind (arith, common_steps)

pub returns-in-Err : goal.returns-in-Err
returns-in-Err = grind (arith, common_steps)

pub returns-then-is_empty : goal.returns-then-is_empty
returns-then-is_empty = grind (arith, common_steps)
