use Rattle.std.proofs.Common.{◌∙◌}
use Rattle.std.proofs.lemmas.List.{length-set}
use Rattle.iscsi_world.specs.Machine.{LinkState, is_settled, is_silent}
use Rattle.iscsi_connection.specs.Connections.{has_to_send, is_full}
use Rattle.iscsi_connection.proofs.Marked.{lent_of_others, lent_of_known}
use Rattle.iscsi_connection.proofs.connections.Connections.at_mut.Goals as goal

pub invariant_of-self-lent : goal.invariant_of-self-lent
invariant_of-self-lent c w =
    let links = c.self.inside.items.items in (
      length-set links c.args.c w ∙ c.self.invariant.0,
      lent_of_others (λ (link : LinkState). is_settled link.phase) c.self.inside.unsettled c.insert.new.self links c.args.c w
          c.insert.ensures.own c.insert.ensures.others c.self.invariant.1,
      lent_of_others is_silent c.self.inside.busy c.insert-2.new.self links c.args.c w c.insert-2.ensures.own c.insert-2.ensures.others
          c.self.invariant.2,
      lent_of_others has_to_send c.self.inside.unstalled c.insert-3.new.self links c.args.c w c.insert-3.ensures.own c.insert-3.ensures.others
          c.self.invariant.3,
      lent_of_known is_full c.self.inside.uncounted c.insert-4.new.self c.self.inside.full links c.args.c w c.insert-4.ensures.own
          c.insert-4.ensures.others c.self.invariant.4,
    )
