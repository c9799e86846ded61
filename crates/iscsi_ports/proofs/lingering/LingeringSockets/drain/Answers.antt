use Rattle.iscsi_ports.specs.Lingering.{is_at_once}
use Rattle.std.proofs.Common.{rules}
use Rattle.std.specs.Prelude.{option_map}
use Rattle.std.specs.Duration.{as_nanos}
use Rattle.iscsi_ports.proofs.LingeringPlaces.{none_drained, drained_at_once}
use Rattle.iscsi_ports.proofs.Waiting.{shortly_no_longer, shortly_a_second}
use Rattle.iscsi_ports.proofs.lingering.LingeringSockets.drain.Goals as goal

pub returns-then-is_empty-clause-drains : goal.returns-then-is_empty-clause-drains
returns-then-is_empty-clause-drains c =
    none_drained c.args.self.now.places.items c.args.self.now.notes (is_at_once (option_map as_nanos c.args.wait)) (search rules)

pub returns-clause-no_longer : goal.returns-clause-no_longer
returns-clause-no_longer c = rw c.shortly.ensures (shortly_no_longer (option_map as_nanos c.args.wait))

pub returns-clause-shortly : goal.returns-clause-shortly
returns-clause-shortly c = λ _. rw c.shortly.ensures (shortly_a_second (option_map as_nanos c.args.wait))

pub returns-clause-drains : goal.returns-clause-drains
returns-clause-drains c =
    drained_at_once c.args.self.now.places.items c.drain_all.new.self.places.items c.args.self.now.notes c.drain_all.new.self.notes _ _
    c.drain_all.ensures c.if-drain_all.false
