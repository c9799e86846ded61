use Rattle.std.proofs.Common.{◌≡◌, ℕ, refl, sym, subst}
use Rattle.std.proofs.lemmas.List.{length-replicate}
use Rattle.iscsi_pdu.specs.Header.{data_length}
use Rattle.iscsi_transfer.specs.Counted.{brought}
use Rattle.iscsi_requests.specs.declared.verdict.Verdict.TheVariants.{Feeding}
use Rattle.iscsi_requests.specs.Draining.{judged_in, judged_drain, drain_for}
use Rattle.iscsi_requests.specs.Unread.{IsUnread}
use Rattle.iscsi_requests.specs.State.{SessionState, Stands}
use Rattle.iscsi_requests.proofs.Unread.{unread_frame, drains_unread}
use Rattle.iscsi_session.proofs.Feeding.{stands_fed}
use Rattle.iscsi_session.proofs.session.Session.count_drained.Goals as goal

pub count_drained-requires : goal.count_drained-requires
count_drained-requires c =
    let header = c.args.header.now in
    let frame = brought header (data_length header) in
    let unread = unread_frame c.args.self.now.transfers header frame refl (length-replicate {A = ℕ} (data_length header) 0) c.requires.out
    c.requires.untaken in
    subst (λ (state : SessionState). judged_drain state.transfers.drains frame (drain_for frame state.transfers.drains) ≡ Feeding) (sym c.self.view_is)
    (drains_unread c.args.self.now.transfers header frame unread (c.requires.lawful frame unread)).1

pub returns-clause-stands : goal.returns-clause-stands
returns-clause-stands c frame unread past s =
    let known = subst (λ (state : SessionState). Stands past state) (sym c.self.view_is) s in
    let there = subst (λ (state : SessionState). IsUnread state.transfers c.args.header.now frame) (sym c.self.view_is) unread in
    let feeds : judged_in c.self.inside.transfers frame ≡ Feeding =
    subst (λ (state : SessionState). judged_in state.transfers frame ≡ Feeding) (sym c.self.view_is) (c.requires.lawful frame unread) in
    rw (c.count_drained.ensures frame there feeds) (stands_fed past _ frame known)
