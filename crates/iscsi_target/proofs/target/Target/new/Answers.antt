use Rattle.std.proofs.Common.{length, sym, ap, ◌∙◌, List, arith}
use Rattle.std.specs.Prelude.{string_bytes}
use Rattle.std.proofs.lemmas.List.{length-map, length-replicate}
use Rattle.std.proofs.lemmas.List.Elements.{All-replicate}
use Rattle.iscsi_target.specs.Known.{known_in}
use Rattle.iscsi_world.specs.Machine.{LinkState, IsWithin, free_link, new_machine}
use Rattle.iscsi_world.proofs.Standing.{new_stands, stands_machine}
use Rattle.iscsi_world.proofs.Wanting.{bounded_links, new_bounded}
use Rattle.std.proofs.lemmas.Grind.{common_steps}
use Rattle.iscsi_target.proofs.target.Target.new.Goals as goal

pub invariant_of-result : goal.invariant_of-result
invariant_of-result g c = (
  rw c.in_ok-connections.ensures (length-replicate 64 free_link),
  c.requires ∙ sym (length-map c.args.config.targets.items string_bytes),
  rw c.in_ok-connections.ensures (All-replicate (λ (link : LinkState). IsWithin (length c.args.units.items) link.phase) 64 free_link tt),
)

pub returns-clause-stands : goal.returns-clause-stands
returns-clause-stands g c =
    stands_machine _ _ _ _ _ (ap (λ (links : List LinkState). record {
      directory = known_in c.args.config;
      units = c.args.units.items;
      links = links;
    }) (sym c.in_ok-connections.ensures))
    (new_stands (record { directory = known_in c.args.config; units = c.args.units.items }))

pub returns-clause-bounded : goal.returns-clause-bounded
returns-clause-bounded g c =
    bounded_links (new_machine (known_in c.args.config) c.args.units.items) _ (sym c.in_ok-connections.ensures)
    (new_bounded (known_in c.args.config) c.args.units.items)

pub returns-in_err-connections : goal.returns-in_err-connections
returns-in_err-connections = grind (arith, common_steps)

pub returns-clause-made : goal.returns-clause-made
returns-clause-made = grind (arith, common_steps)
