use Rattle.std.proofs.lemmas.Bool.{ne_eqb}
use Rattle.session_log.proofs.Fields.{number_at}
use Rattle.session_log.proofs.answer.response_of.Goals as goal

pub returns-then-header-eq2 : goal.returns-then-header-eq2
returns-then-header-eq2 c = rw (c.if-header-eq2.true, c.read_u32-tag.ensures, number_at 4 16 28 c.args.header.now)

pub returns : goal.returns
returns c = rw (ne_eqb _ _ c.if-header-eq2.false, c.read_u32-tag.ensures, number_at 4 16 28 c.args.header.now)
