use Rattle.std.proofs.Common.{◌∙◌}
use Rattle.std.proofs.lemmas.List.{length-set}
use Rattle.iscsi_ports.proofs.mio_sockets.MioSocketsSocketCalls.write.Goals as goal

pub invariant_of-self-clause-places : goal.invariant_of-self-clause-places
invariant_of-self-clause-places c = length-set c.args.self.now.streams.items c.args.c c.write_to.new.place ∙ c.args.self.now.places

pub invariant_of-self-clause-accounted : goal.invariant_of-self-clause-accounted
invariant_of-self-clause-accounted c = rw c.wrote.ensures c.args.self.now.accounted

pub invariant_of-self-clause-dropped : goal.invariant_of-self-clause-dropped
invariant_of-self-clause-dropped c = rw c.wrote.ensures c.args.self.now.dropped

pub invariant_of-self-in-Err-clause-places : goal.invariant_of-self-in-Err-clause-places
invariant_of-self-in-Err-clause-places c = length-set c.args.self.now.streams.items c.args.c c.write_to.new.place ∙ c.args.self.now.places

pub invariant_of-self-in-Err-clause-accounted : goal.invariant_of-self-in-Err-clause-accounted
invariant_of-self-in-Err-clause-accounted c = rw c.write_failed.ensures c.args.self.now.accounted

pub invariant_of-self-in-Err-clause-dropped : goal.invariant_of-self-in-Err-clause-dropped
invariant_of-self-in-Err-clause-dropped c = rw c.write_failed.ensures c.args.self.now.dropped
