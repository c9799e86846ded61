use Rattle.std.proofs.Common.{◌≡◌, ℕ, List, Option, refl, subst, sym, ap, ◌∙◌}
use Rattle.std.proofs.lemmas.Result.{on_ok_weaker, on_err_weaker}
use Rattle.iscsi_pdu.specs.Frames.{Frame}
use Rattle.iscsi_pdu.specs.LoginRequest.{tsih}
use Rattle.iscsi_pdu.specs.declared.answer.Answer.TheVariants as answers
use Rattle.iscsi_login.specs.Lookup.{Lookup, lookup_in}
use Rattle.iscsi_login.specs.Login.{reply_of}
use Rattle.iscsi_login.specs.Session.{named_by}
use Rattle.iscsi_login.specs.declared.session_params.SessionParams.{SessionParams}
use Rattle.iscsi_world.specs.World.{lookup_for}
use Rattle.iscsi_world.specs.Machine.{LinkState, Machine, link_at, closed, IsWithin, logged_in, sessions}
use Rattle.iscsi_world.proofs.Asking.{enters, no_session, waits, closed_asked, reads_asked, begun_alike, begun_by_request, on_err}
use Rattle.iscsi_world.proofs.Lending.{lent_holds}
use Rattle.iscsi_target.proofs.target.Target.log_in.Goals as goal

pub returns-in_err-response-clause-err : goal.returns-in_err-response-clause-err
returns-in_err-response-clause-err g c =
    let e = enters _ c.args.self.now c.args.c c.at_mut-connection.result.now _ c.self.view_is c.self.invariant.0 c.requires.in_range
    c.at_mut-connection.ensures.value c.requires.logs_in in
    on_err c.from_residual-in_err-response.result
    (closed_asked _ _ _ _ c.log_in.new.self e c.in_err-response.ensures.waiting c.in_err-response.ensures.session)

pub invariant_of-self-in-Some : goal.invariant_of-self-in-Some
invariant_of-self-in-Some g c =
    let units = c.self.inside.units.items in
    lent_holds c.self.inside.connections units units _ c.args.c _ _ c.log_in.new.self c.requires.in_range c.self.invariant
    c.at_mut-connection.ensures.value refl
    (subst (λ (n : ℕ). IsWithin n c.at_mut-connection.result.now.phase → IsWithin n c.log_in.new.self.phase) (sym c.self.invariant.1)
    c.in_ok-response.ensures.target)

pub begin-requires-clause-reads : goal.begin-requires-clause-reads
begin-requires-clause-reads g c =
    let e = enters _ c.args.self.now c.args.c c.at_mut-connection.result.now _ c.self.view_is c.self.invariant.0 c.requires.in_range
    c.at_mut-connection.ensures.value c.requires.logs_in in
    let waiting = waits _ _ _ _ _ _ (rw c.in-Some.is at (c.in_ok-response.ensures.answered e.login e.there)) in
    reads_asked _ _ _ _ c.log_in.new.self e waiting.logging_in

pub returns-in-Some-clause-ok : goal.returns-in-Some-clause-ok
returns-in-Some-clause-ok g c =
    let machine : Machine = record {
      directory = c.self.inside.directory;
      units = c.self.inside.units.items;
      links = c.self.inside.connections;
    } in
    let a = enters machine c.args.self.now c.args.c c.at_mut-connection.result.now _ c.self.view_is c.self.invariant.0 c.requires.in_range
    c.at_mut-connection.ensures.value c.requires.logs_in in
    let named : c.in_ok-named.named ≡ named_by (tsih c.args.request.now.header) (sessions c.self.inside.connections) =
    c.in_ok-named.ensures ∙ ap (λ (ls : List LinkState). named_by c.tsih.result (sessions ls)) c.as_slice.ensures.value
    ∙ ap (λ (n : ℕ). named_by n (sessions c.self.inside.connections)) (c.tsih.ensures ∙ ap (λ (f : Frame). tsih f.header) c.request.view_is) in
    let looked_up : lookup_in c.self.inside.directory c.in_ok-named.named ≡ lookup_for machine.directory (sessions machine.links) c.args.request.now =
    ap (λ (o : Option SessionParams). lookup_in c.self.inside.directory o) named in
    on_ok_weaker c.begin.result (λ e login h.
    (let is_so : c.at_mut-connection.result.now.phase ≡ _ = ap (λ (l : LinkState). l.phase) a.old
    ∙ ap (λ (m : Machine). (link_at m c.args.c).phase) c.self.view_is ∙ h in
    let waiting = waits _ _ _ _ _ _ (rw c.in-Some.is at (c.in_ok-response.ensures.answered login is_so)) in
    let reply : reply_of login (lookup_for machine.directory (sessions machine.links) c.args.request.now) c.args.request.now ≡ _ =
    ap (λ (k : Lookup). reply_of login k c.args.request.now) (sym looked_up) ∙ waiting.reply_is in
    e ∙ begun_alike machine c.args.c c.log_in.new.self c.in-Some.session (answers.LoginResponse c.in-Some.response) a.in_range (waiting.same
    ∙ ap (λ (l : LinkState). record l { phase = c.log_in.new.self.phase }) a.old) waiting.logging_in a.logs
    ∙ begun_by_request machine c.args.c login c.args.request.now c.in-Some.session c.in-Some.response reply
    ∙ ap (λ (m : Machine). logged_in m c.args.c login c.args.request.now) c.self.view_is)) c.begin.ensures.ok

pub returns-in-Some-clause-err : goal.returns-in-Some-clause-err
returns-in-Some-clause-err g c =
    let e = enters _ c.args.self.now c.args.c c.at_mut-connection.result.now _ c.self.view_is c.self.invariant.0 c.requires.in_range
    c.at_mut-connection.ensures.value c.requires.logs_in in
    let waiting = waits _ _ _ _ _ _ (rw c.in-Some.is at (c.in_ok-response.ensures.answered e.login e.there)) in
    on_err_weaker c.begin.result (λ same. ap (λ (m : Machine). closed m c.args.c) same
    ∙ closed_asked _ _ _ _ c.log_in.new.self e (ap (λ (l : LinkState). l.waiting) waiting.same) (no_session c.log_in.new.self.phase waiting.logging_in))
    c.begin.ensures.err
