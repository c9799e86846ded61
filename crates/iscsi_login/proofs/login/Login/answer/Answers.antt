use Rattle.std.proofs.Common.{arith, ap, length}
use Rattle.std.proofs.lemmas.List.{length-take}
use Rattle.iscsi_login.proofs.login.Login.answer.Goals as goal

pub go_on-requires : goal.go_on-requires
go_on-requires c = grind (arith, length-take 8192 c.args.self.now.due, ap length c.requires.next)

pub returns-in-Some-clause-target : goal.returns-in-Some-clause-target
returns-in-Some-clause-target c = λ count below. (c.in-Some.ensures.target count below, c.begin.ensures.left count below)
