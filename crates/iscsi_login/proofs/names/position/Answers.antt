use Rattle.std.proofs.Common.{rules, tests, sym, ◌∙◌}
use Rattle.std.specs.Prelude.{string_bytes, bytes_eq}
use Rattle.std.proofs.lemmas.Iterator.{YieldsList-from_slice}
use Rattle.std.proofs.lemmas.Iterator.Search.{position_from_yields_List}
use Rattle.iscsi_login.specs.Session.{target_named}
use Rattle.iscsi_login.proofs.Lists.{position_of_map}
use Rattle.iscsi_login.proofs.names.position.Goals as goal

pub returns-clause-value : goal.returns-clause-value
unfolding target_named
returns-clause-value c =
    position_from_yields_List (λ other. bytes_eq (string_bytes other) c.args.name.now) _ _ c.position.result c.position.ensures.ran
    (YieldsList-from_slice c.args.names.now c.iter.ensures.rest) (λ x b q k. search (rules, tests))
    ∙ sym (position_of_map (λ other. bytes_eq other c.args.name.now) string_bytes c.args.names.now)
