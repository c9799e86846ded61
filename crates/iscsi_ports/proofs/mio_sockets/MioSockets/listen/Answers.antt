use Rattle.std.proofs.Common.{ap, inl, refl, sym, None, arith, rules}
use Rattle.std.proofs.lemmas.List.{get_or-replicate}
use Rattle.iscsi_ports.specs.ReadBuffer.{bytes_in}
use Rattle.iscsi_ports.proofs.mio_sockets.MioSockets.listen.Goals as goal

pub invariant_of-result-clause-accounted : goal.invariant_of-result-clause-accounted
invariant_of-result-clause-accounted g c =
    rw (c.listening.ensures, c.new-notes.ensures, c.in_ok-room.ensures.ahead) (λ d lt. ap bytes_in (sym (get_or-replicate 65 d None None (omega arith))))

pub returns-in_default-clause-explained : goal.returns-in_default-clause-explained
returns-in_default-clause-explained g c = inl (search rules, refl)

pub returns-in_err-room-clause-unspelled : goal.returns-in_err-room-clause-unspelled
returns-in_err-room-clause-unspelled g c = λ unspelled. absurd (unspelled c.in-Ok.address c.in-Ok.ensures.value)

pub returns-in-Err-clause-unspelled : goal.returns-in-Err-clause-unspelled
returns-in-Err-clause-unspelled g c = λ unspelled. absurd (unspelled c.in-Ok.address c.in-Ok.ensures.value)

pub returns-clause-unspelled : goal.returns-clause-unspelled
returns-clause-unspelled g c = λ unspelled. absurd (unspelled c.in-Ok.address c.in-Ok.ensures.value)
