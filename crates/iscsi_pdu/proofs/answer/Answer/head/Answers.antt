use Rattle.std.proofs.Common.{◌≡◌, ℕ, List, ◌++◌, length, take, sym, ap, ◌∙◌, arith, rules}
use Rattle.std.proofs.lemmas.List.{take_at, take_all}
use Rattle.iscsi_pdu.specs.Segment.{segment}
use Rattle.iscsi_pdu.specs.LoginResponse.{login_text}
use Rattle.iscsi_pdu.specs.Answer.{spelling}
use Rattle.iscsi_pdu.specs.declared.answer.Answer.{Answer}
use Rattle.iscsi_pdu.proofs.answer.Answer.head.Goals as goal

pub returns-in-LoginResponse : goal.returns-in-LoginResponse
returns-in-LoginResponse c =
    let header = c.header-in-LoginResponse.result in
    let text = segment (login_text c.in-LoginResponse.response.reply) in
    let whole : length header ≡ 48 = search rules in
    sym (take_at header text 48 whole) ∙ ap (λ (x : List ℕ). take 48 (x ++ text)) c.header-in-LoginResponse.ensures
    ∙ ap (λ (a : Answer). take 48 (spelling a)) (sym c.in-LoginResponse.is)

pub returns-in-R2t : goal.returns-in-R2t
returns-in-R2t c =
    let header = c.header-in-R2t.result in
    let whole : length header ≡ 48 = search rules in
    sym (take_all 48 header (omega (arith, whole))) ∙ ap (λ (x : List ℕ). take 48 x) c.header-in-R2t.ensures
    ∙ ap (λ (a : Answer). take 48 (spelling a)) (sym c.in-R2t.is)
