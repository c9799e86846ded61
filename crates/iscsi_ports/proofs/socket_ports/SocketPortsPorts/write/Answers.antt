use Rattle.std.proofs.Common.{refl, sym, rules, ◌∙◌}
use Rattle.std.proofs.lemmas.Bool.{false≢true}
use Rattle.iscsi_ports.proofs.socket_ports.SocketPortsPorts.write.Goals as goal

pub returns-clause-log : goal.returns-clause-log
returns-clause-log g c = rw (c.write-answer.ensures.call, c.write_told.ensures.told c.args.bytes.now) refl

pub returns-then-has_to_wait-clause-written : goal.returns-then-has_to_wait-clause-written
returns-then-has_to_wait-clause-written g c = λ goes. absurd (false≢true (sym goes ∙ sym (rw c.offer.ensures at c.has_to_wait.ensures) ∙ search rules))
