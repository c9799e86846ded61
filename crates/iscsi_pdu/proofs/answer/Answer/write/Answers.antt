use Rattle.iscsi_pdu.proofs.answer.Answer.write.Goals as goal

pub returns-in-TextResponse-clause-ok : goal.returns-in-TextResponse-clause-ok
returns-in-TextResponse-clause-ok c =
    rw (c.in-TextResponse.is) (rw (c.header-in-TextResponse.ensures, c.segment-in-TextResponse.ensures.value) at c.put-in-TextResponse.ensures.ok)
