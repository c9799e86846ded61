use Rattle.std.proofs.Common.{◌≡◌, true, ℕ, List, [], refl, sym, ap, ◌∙◌, subst}
use Rattle.iscsi_login.specs.Values.{AreInRange}
use Rattle.iscsi_session.specs.Comings.{lend}
use Rattle.iscsi_session.specs.Runs.{output}
use Rattle.iscsi_session.specs.Steps.{is_serving}
use Rattle.iscsi_session.specs.Weight.{Loads}
use Rattle.iscsi_session.proofs.AtRest.{serve_loads}
use Rattle.iscsi_world.specs.Machine.{LinkState, is_reading}
use Rattle.iscsi_world.proofs.Choices.{cond_true}
use Rattle.iscsi_connection.proofs.Ahead.{none_counted}
use Rattle.iscsi_world.specs.Serving.{goes_on_by}
use Rattle.iscsi_world.specs.SessionCalls.{Ends, ServesFrame}
use Rattle.iscsi_world.proofs.Bounding.{session_loads}
use Rattle.iscsi_world.proofs.SessionCalls.{leaves_session, ends_so}
use Rattle.iscsi_connection.specs.Arriving.{frame_of}
use Rattle.iscsi_connection.proofs.connection.Connection.serve.Goals as goal

pub returns-clause-calls : goal.returns-clause-calls
returns-clause-calls c =
    let session = c.in-FullFeature.session in
    let then_ = c.serve.new.session in
    let before = c.self.inside.waiting.items in
    let after = c.serve.new.out.items in
    let here = sym (ap (λ (l : LinkState). l.phase) c.self.view_is) ∙ c.in-FullFeature.is in
    let range : AreInRange session.params.values = c.requires.values session here in
    record {
      leaves = λ given is.
          leaves_session (λ given then_ before waiting. Ends is_serving
          (λ failed goes_on. ServesFrame (frame_of c.args.arrived) c.args.luns.now c.serve.new.orders.items failed goes_on given then_ before waiting)
          c.serve.result)
          c.args.self.now c.self.inside.arriving.bytes c.self.inside.phase before after given session then_ c.self.view_is c.in-FullFeature.is is
          c.serve.ensures.params c.serve.ensures.grows
          (ends_so c.serve.result is_serving
          (λ failed goes_on. ServesFrame (frame_of c.args.arrived) c.args.luns.now c.serve.new.orders.items failed goes_on session then_ before after)
          (rw c.requires.fresh at c.serve.ensures.ok) (rw c.requires.fresh at c.serve.ensures.err));
      loads = λ units numbers whole.
          session_loads (goes_on_by c.serve.result) c.args.self.now _ session then_ here refl
          (λ rests. subst (λ (bytes : List ℕ). Loads (goes_on_by c.serve.result) session then_ bytes after) (ap (λ (l : LinkState). l.waiting) c.self.view_is)
          (serve_loads c.serve.result (frame_of c.args.arrived) c.args.luns.now session then_ (output before c.args.orders.now.items)
          (output after c.serve.new.orders.items) (lend units []) numbers c.serve.ensures.ok c.serve.ensures.err c.serve.ensures.idle whole range rests));
    }

pub invariant_of-self-2 : goal.invariant_of-self-2
invariant_of-self-2 c = λ counted.
    (let reading : is_reading c.self.inside.phase ≡ true = ap is_reading c.in-FullFeature.is in
    let none = sym (cond_true _ _ _ reading) ∙ ap (λ (l : LinkState). l.half) c.self.view_is ∙ c.requires.alone in
    absurd (none_counted _ _ c.self.invariant none counted))
