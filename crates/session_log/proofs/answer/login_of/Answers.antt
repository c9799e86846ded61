use Rattle.std.proofs.Common.{◌∙◌, sym}
use Rattle.std.proofs.lemmas.Bool.{ne_eqb}
use Rattle.session_log.proofs.Fields.{number_at}
use Rattle.session_log.proofs.answer.login_of.Goals as goal

pub returns-then-status-ne0 : goal.returns-then-status-ne0
returns-then-status-ne0 c =
    let status = c.read_u16-status.ensures ∙ number_at 2 36 10 c.args.header.now in
    rw (← status, ne_eqb _ _ c.if-status-ne0.true)

pub returns-then-header-eq131 : goal.returns-then-header-eq131
returns-then-header-eq131 c =
    let status = sym (number_at 2 36 10 c.args.header.now) ∙ sym c.read_u16-status.ensures ∙ c.if-status-ne0.false in
    rw (status, c.if-header-eq131.true, c.read_u16-tsih.ensures, number_at 2 14 32 c.args.header.now)

pub returns : goal.returns
returns c =
    let status = sym (number_at 2 36 10 c.args.header.now) ∙ sym c.read_u16-status.ensures ∙ c.if-status-ne0.false in
    rw (status, ne_eqb _ _ c.if-header-eq131.false)
