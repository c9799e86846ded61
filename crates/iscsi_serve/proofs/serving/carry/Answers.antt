use Rattle.iscsi_serve.proofs.Keeping.{keeps_then}
use Rattle.iscsi_serve.proofs.serving.carry.Goals as goal

pub returns-clause-carries : goal.returns-clause-carries
returns-clause-carries g c = λ tells before turn at are.
    (let write_tells = c.close_all.ensures.keeps.back tells in
    let read = c.read_all.ensures.goes (c.write_all-has_closes.ensures.does.keeps.back write_tells) before turn at are in
    let written = c.write_all-has_closes.ensures.does.goes write_tells before read.0 read.1 read.2 in
    let closed = c.close_all.ensures.goes tells before written.0 written.1 written.2 in
    (closed.0, closed.1, record { read = _; written = _; reads = read.3; writes = written.3; closes = closed.3 }))

pub returns-clause-keeps : goal.returns-clause-keeps
returns-clause-keeps g c =
    keeps_then _ _ _ _ _ _ _ _ _ c.read_all.ensures.keeps (keeps_then _ _ _ _ _ _ _ _ _ c.write_all-has_closes.ensures.does.keeps c.close_all.ensures.keeps)
