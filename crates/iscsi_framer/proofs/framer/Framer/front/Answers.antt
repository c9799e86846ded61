use Rattle.std.proofs.Common.{arith}
use Rattle.std.proofs.lemmas.Grind.{common_steps}
use Rattle.iscsi_framer.proofs.framer.Framer.front.Goals as goal

pub returns-clause-followed : goal.returns-clause-followed
returns-clause-followed = grind (arith, common_steps)

pub returns-clause-part : goal.returns-clause-part
returns-clause-part = grind (arith, common_steps)

pub returns-in_default-clause-alone : goal.returns-in_default-clause-alone
returns-in_default-clause-alone = grind (arith, common_steps)

pub returns-in_default-clause-followed : goal.returns-in_default-clause-followed
returns-in_default-clause-followed = grind (arith, common_steps)

pub returns-then-data-gt-MOST_DATA-clause-alone : goal.returns-then-data-gt-MOST_DATA-clause-alone
returns-then-data-gt-MOST_DATA-clause-alone = grind (arith, common_steps)

pub returns-then-data-gt-MOST_DATA-clause-followed : goal.returns-then-data-gt-MOST_DATA-clause-followed
returns-then-data-gt-MOST_DATA-clause-followed = grind (arith, common_steps)

pub returns-then-data-gt-MOST_DATA-clause-part : goal.returns-then-data-gt-MOST_DATA-clause-part
returns-then-data-gt-MOST_DATA-clause-part = grind (arith, common_steps)

pub returns-then-had-end-clause-alone : goal.returns-then-had-end-clause-alone
returns-then-had-end-clause-alone = grind (arith, common_steps)

pub returns-then-had-end-clause-followed : goal.returns-then-had-end-clause-followed
returns-then-had-end-clause-followed = grind (arith, common_steps)

pub returns-then-had-end-2-clause-alone : goal.returns-then-had-end-2-clause-alone
returns-then-had-end-2-clause-alone = grind (arith, common_steps)

pub returns-then-had-end-2-clause-part : goal.returns-then-had-end-2-clause-part
returns-then-had-end-2-clause-part = grind (arith, common_steps)
