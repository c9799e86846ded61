-- A Data-Out of which only the header was kept.
use Rattle.std.proofs.Common.{◌≡◌, ℕ, List, [], length, Bool, true, false, ◌⊎◌, refl, sym, ap, ◌∙◌, arith}
use Rattle.std.specs.Prelude.{if◌then◌else◌}
use Rattle.iscsi_pdu.specs.Frames.{Frame}
use Rattle.iscsi_pdu.specs.Header.{data_length, opcode_of, opcode_number, initiator_task_tag}
use Rattle.iscsi_pdu.specs.declared.header.Opcode.TheVariants.{DataOut}
use Rattle.iscsi_pdu.specs.declared.reject.RejectReason.TheVariants as reasons
use Rattle.iscsi_requests.specs.declared.verdict.Verdict.{Verdict}
use Rattle.iscsi_requests.specs.declared.verdict.Verdict.TheVariants.{Ignored, Dropped, Rejected, Accepted, Feeding, Violating}
use Rattle.iscsi_requests.specs.Requests.{Past}
use Rattle.iscsi_requests.specs.Transfers.{command_with}
use Rattle.iscsi_requests.specs.Judging.{is_refused, verdict, verdict_by, judged, judged_answers}
use Rattle.iscsi_requests.specs.Draining.{judged_in}
use Rattle.iscsi_requests.specs.State.{SessionState, Stands}
use Rattle.iscsi_requests.specs.Unread.{IsUnread}
use Rattle.iscsi_session.specs.Runs.{output}
use Rattle.iscsi_session.proofs.Feeding.{judged_is}
use Rattle.iscsi_session.proofs.Verdicts.{verdict_at, data_not_accepted}
use Rattle.iscsi_session.proofs.Stages.{StopsServing, serving, judging_stops, taken_stops}

-- ---- it is judged by the code as by its past

pub unread_is : (past : Past) (state : SessionState) (header : List ℕ) (frame : Frame) (refused : Bool) → Stands past state
    → IsUnread state.transfers header frame → is_refused past.params frame ≡ refused
    → verdict past frame ≡ (if refused then Rejected reasons.CommandNotSupported else judged_in state.transfers frame)
unfolding verdict_by
unread_is past state header frame true s unread e = rw e refl
unread_is past state header frame false s unread e =
    rw e (verdict_at past frame DataOut (ap opcode_of (ap opcode_number unread.header_is ∙ unread.out)) ∙ sym (judged_is past state frame s))

unread_not_accepted : (past : Past) (state : SessionState) (header : List ℕ) (frame : Frame) → Stands past state → IsUnread state.transfers header frame
    → verdict past frame ≡ Accepted → ⊥
unread_not_accepted past state header frame s unread e = by_refusal (is_refused past.params frame) refl
  where
    by_refusal : (refused : Bool) → is_refused past.params frame ≡ refused → ⊥
    by_refusal true r = let h = sym e ∙ unread_is past state header frame true s unread r in cc
    by_refusal false r = data_not_accepted past frame (command_with past (initiator_task_tag frame.header))
        (sym (judged_is past state frame s) ∙ sym (unread_is past state header frame false s unread r) ∙ e)

-- it changes nothing, and is not answered
pub record IsQuiet (past : Past) (frame : Frame) : Type 0 where
  pub stays : judged (verdict past frame) frame past ≡ past
  pub silent : judged_answers (verdict past frame) past frame ≡ []

quiet_by : (v : Verdict) (past : Past) (frame : Frame) → verdict past frame ≡ v
    → (v ≡ Accepted) ⊎ ((v ≡ Ignored) ⊎ ((v ≡ Dropped) ⊎ (v ≡ Violating))) → (v ≡ Accepted → ⊥) → IsQuiet past frame
quiet_by Accepted past frame e is other = absurd (other refl)
quiet_by Ignored past frame e is other = record { stays = rw e refl; silent = rw e refl }
quiet_by Dropped past frame e is other = record { stays = rw e refl; silent = rw e refl }
quiet_by Violating past frame e is other = record { stays = rw e refl; silent = rw e refl }
quiet_by Feeding past frame e is other = absurd (grind arith)
quiet_by (Rejected reason) past frame e is other = absurd (grind arith)

pub unread_quiet : (v : Verdict) (past : Past) (state : SessionState) (header : List ℕ) (frame : Frame) → Stands past state
    → IsUnread state.transfers header frame → v ≡ verdict past frame
    → (v ≡ Accepted) ⊎ ((v ≡ Ignored) ⊎ ((v ≡ Dropped) ⊎ (v ≡ Violating))) → IsQuiet past frame
unread_quiet v past state header frame s unread e is =
    quiet_by v past frame (sym e) is (λ a. unread_not_accepted past state header frame s unread (sym e ∙ a))

-- ---- an allocation failed before it was judged

pub unread_stops : (luns header : List ℕ) (old new : SessionState) (bytes items : List ℕ) (orders : List (List ℕ)) → new ≡ old → items ≡ bytes
    → (frame : Frame) → frame.header ≡ header → length frame.body ≡ data_length header
    → StopsServing luns (serving frame) old new (output bytes orders) (output items orders)
unread_stops luns header old new bytes items orders same unchanged frame header_is long =
    taken_stops luns frame old new (output bytes orders) (output items orders) (judging_stops luns frame old new bytes items orders same unchanged)
