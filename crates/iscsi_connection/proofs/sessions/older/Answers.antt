use Rattle.std.proofs.Common.{rules, tests, sym, ◌∙◌}
use Rattle.std.proofs.lemmas.Iterator.{YieldsList-from_slice}
use Rattle.std.proofs.lemmas.Iterator.Search.{position_from_yields_List}
use Rattle.iscsi_login.specs.Session.{is_of, older}
use Rattle.iscsi_world.specs.Machine.{session_in_phase}
use Rattle.iscsi_world.proofs.Lists.{position_of_map}
use Rattle.iscsi_connection.proofs.sessions.older.Goals as goal

pub returns-clause-value : goal.returns-clause-value
unfolding older
returns-clause-value c =
    let test = is_of c.args.session.now.nexus c.args.session.now.target in
    position_from_yields_List (λ link. test (session_in_phase link.phase)) _ _ c.position.result c.position.ensures.ran
    (YieldsList-from_slice c.args.connections.now c.iter.ensures.rest) (λ x b q k. search (rules, tests))
    ∙ sym (position_of_map test (λ link. session_in_phase link.phase) c.args.connections.now)
