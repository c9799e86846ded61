-- The bytes of a connection: the PDU in front is taken, or only counted.
use Rattle.std.proofs.Common.{◌≡◌, ℕ, ◌+◌, ◌-◌, ◌==◌, ◌<◌, ◌≤◌, List, [], ◌++◌, length, take, drop, true, false, Option, Some, None, refl, sym, ap, ◌∙◌, subst, arith, inl, inr, length-append, append_assoc, append-nil}
use Rattle.std.proofs.lemmas.List.{drop_all, take-append-le, take-append-drop}
use Rattle.std.proofs.lemmas.Bool.{cases_Bool, le-leb, ltb-true}
use Rattle.std.specs.Prelude.{nat_lt, Result, Ok, Err, IfOk, IfSome}
use Rattle.iscsi_pdu.specs.Header.{header_length, data_length, additional_length, opcode_number}
use Rattle.iscsi_pdu.specs.Segment.{most_data, padded}
use Rattle.iscsi_pdu.specs.Parts.{is_data_out}
use Rattle.iscsi_pdu.specs.Frames.{Frame, has_frame, is_long, frame_length, missing, wanted}
use Rattle.iscsi_pdu.proofs.Frames.{drop_shorter, frames_taken, rest_taken}
use Rattle.iscsi_pdu.proofs.Cuts.{has_frame-append, first_frame-append, behind-append, data_length-append, data_length-take}
use Rattle.iscsi_pdu.proofs.DataOuts.{is_data_out-header, is_data_out-more}
use Rattle.iscsi_pdu.proofs.Fields.{fields, not_long}
use Rattle.iscsi_framer.specs.Framer.{IsWholly, HoldsNoMore}
use Rattle.iscsi_framer.proofs.Fronts.{long_alike}
use Rattle.iscsi_transfer.specs.Counted.{brought}
use Rattle.iscsi_login.specs.declared.session_params.SessionParams.{SessionParams}
use Rattle.iscsi_session.specs.Unread.{takes_in}
use Rattle.iscsi_session.specs.Requests.{begun, unfinished, left}
use Rattle.iscsi_session.specs.State.{SessionState, remembered, transfers_of}
use Rattle.iscsi_world.specs.History.{arrivals}
use Rattle.iscsi_world.specs.Machine.{GivesFrame}
use Rattle.iscsi_world.specs.declared.phase.Phase.{Phase}
use Rattle.iscsi_world.specs.declared.phase.Phase.TheVariants.{FullFeature}
use Rattle.iscsi_world.proofs.Taking.{none_whole, short_frame}
use Rattle.iscsi_connection.specs.Passing.{IsHalfRead}
use Rattle.iscsi_connection.specs.Arriving.{ArrivingState, CanPass, IsUntaken, IsOfCounted, MayServe, out_in}
use Rattle.iscsi_connection.specs.declared.arriving.Arrived.{Arrived}
use Rattle.iscsi_connection.specs.declared.arriving.Arrived.TheVariants.{Whole, Passed}

-- ---- a PDU is taken from the front

-- the bytes before these are one frame
gives_all : (frame : Frame) (p after : List ℕ) → IsWholly frame p → GivesFrame frame (p ++ after) after
gives_all frame p after w =
    let whole = has_frame-append p after w.whole in
    let exact = w.exact in
    let left : after ≡ drop (frame_length (p ++ after)) (p ++ after) =
    sym (behind-append p after w.whole ∙ ap (λ (l : List ℕ). l ++ after) (drop_all (frame_length p) p (omega (arith, exact)))) in
    record {
      first = frames_taken (p ++ after) after frame whole (first_frame-append p after w.whole ∙ w.first) left;
      behind = rest_taken (p ++ after) after whole left;
      shorter = subst (λ (x : List ℕ). length x < length (p ++ after)) (sym left) (drop_shorter (p ++ after) whole);
    }

-- with the bytes of a piece that were used
pub gives_used : (frame : Frame) (bytes piece : List ℕ) (used : ℕ) → IsWholly frame (bytes ++ take used piece)
    → GivesFrame frame (bytes ++ piece) (drop used piece)
gives_used frame bytes piece used w =
    subst (λ (x : List ℕ). GivesFrame frame x (drop used piece))
    (append_assoc bytes (take used piece) (drop used piece) ∙ ap (λ (x : List ℕ). bytes ++ x) (take-append-drop used piece))
    (gives_all frame (bytes ++ take used piece) (drop used piece) w)

-- with none of them: it is all that there is
pub gives_alone : (o : Option Frame) (kept bytes : List ℕ) → bytes ≡ kept → IfSome o (λ frame. IsWholly frame kept)
    → IfSome o (λ frame. GivesFrame frame bytes [])
gives_alone None kept bytes is w = tt
gives_alone (Some frame) kept bytes is w = subst (λ (x : List ℕ). GivesFrame frame x []) (append-nil kept ∙ sym is) (gives_all frame kept [] w)

pub alone_only : (o : Option Frame) (kept bytes : List ℕ) → bytes ≡ kept → IfSome o (λ frame. IsWholly frame kept) → IfSome o (λ _. HoldsNoMore bytes)
alone_only None kept bytes is w = tt
alone_only (Some frame) kept bytes is w = subst HoldsNoMore (sym is) (λ short. (let exact = w.exact in omega (arith, exact)))

-- none is whole, and none names too much data
pub none_taken : (bytes : List ℕ) → has_frame bytes ≡ false → (is_long bytes ≡ true → ⊥) → arrivals bytes ≡ []
none_taken bytes none fits = elim (cases_Bool (is_long bytes)) [
  | inl long ↦ absurd (fits long)
  | inr short ↦ none_whole bytes none short
]

-- ---- a Data-Out in front

-- bytes have come after its header, and no more than it has
pub record Begun (bytes : List ℕ) : Type 0 where
  pub out : is_data_out bytes ≡ true
  pub short : is_long bytes ≡ false
  pub begun : header_length < length bytes
  pub within : length bytes ≤ frame_length bytes

pub begun_half : (bytes : List ℕ) → IsHalfRead bytes → Begun bytes
begun_half bytes h =
    let less = short_frame bytes h.out h.part h.short in
    record { out = h.out; short = h.short; begun = h.begun; within = omega (arith, less) }

half_begun : (bytes : List ℕ) → Begun bytes → has_frame bytes ≡ false → IsHalfRead bytes
half_begun bytes b none = record { out = b.out; short = b.short; begun = b.begun; part = none }

pub begun_more : (bytes more : List ℕ) → Begun bytes → length (bytes ++ more) ≤ frame_length (bytes ++ more) → Begun (bytes ++ more)
begun_more bytes more b within =
    let begun = b.begun in
    record {
      out = is_data_out-more bytes more b.out;
      short = long_alike bytes more (is_data_out-header bytes b.out) ∙ b.short;
      begun = omega (arith, begun, length-append bytes more);
      within = within;
    }

-- ---- whether it may pass

-- more of its bytes
pub out_more : (p more : List ℕ) → header_length ≤ length p → out_in (p ++ more) ≡ out_in p
out_more p more there = rw (data_length-append p more there, take-append-le header_length p more there) refl

-- ---- one that is half read

out_by : (half header : List ℕ) → header ≡ take header_length half → header_length ≤ length half → (opcode_number header == 0x05) ≡ true
    → is_data_out half ≡ true
unfolding is_data_out
out_by half header is there out = grind (arith, le-leb)

pub half_by : (half header : List ℕ) (want more : ℕ) → header ≡ take header_length half → header_length ≤ length half → has_frame half ≡ false
    → (opcode_number header == 0x05) ≡ true → data_length header ≤ most_data → want ≡ wanted half
    → more ≡ additional_length header + padded (data_length header) → nat_lt want more ≡ true → IsHalfRead half
unfolding missing
half_by half header want more is there part out few want_is more_is less =
    let out_here : is_data_out half ≡ true = out_by half header is there out in
    let fewer : want < more = ltb-true want more less in
    let framed = (fields half header is).framed in
    let left : missing half ≡ frame_length half - length half = rw (le-leb _ _ there) refl in
    record {
      out = out_here;
      short = not_long half header is few;
      begun = omega (arith, framed, left, want_is, more_is, fewer);
      part = part;
    }

-- ---- what a session does keeps it untaken

-- no command has come to a session that begins
pub begun_untaken : (params : SessionParams) (out : Frame) → IsUntaken (FullFeature (remembered (begun params))) out
unfolding transfers_of unfinished left
begun_untaken params out = refl

pub still_passes : (old new : SessionState) (arriving : ArrivingState)
    → ((frame : Frame) → takes_in old.transfers frame ≡ false → takes_in new.transfers frame ≡ false)
    → CanPass (FullFeature old) arriving → CanPass (FullFeature new) arriving
still_passes old new arriving fewer can = λ counted. ((can counted).0, fewer (out_in arriving.bytes) (can counted).1)

-- nothing is counted where nothing is kept
pub none_counted : (phase : Phase) (arriving : ArrivingState) → CanPass phase arriving → arriving.bytes ≡ [] → arriving.is_counted ≡ true → ⊥
none_counted phase arriving can none counted =
    let there = (can counted).0 in
    omega (arith, there, ap (λ (x : List ℕ). length x) none)

-- more of the bytes that are counted
pub passes_more : (phase : Phase) (old new : ArrivingState) (more : List ℕ) → new ≡ record old { bytes = old.bytes ++ more }
    → CanPass phase old → CanPass phase new
passes_more phase old new more is can = rw is (λ counted.
    (let passes = can counted in
    let there = passes.0 in (
      omega (arith, there, length-append old.bytes more),
      subst (IsUntaken phase) (sym (out_more old.bytes more (omega (arith, there)))) passes.1,
    )))

opcode_there : (bytes : List ℕ) → is_data_out bytes ≡ true → opcode_number (take header_length bytes) ≡ 0x05
unfolding is_data_out
opcode_there bytes out = grind arith

serves_of : (phase : Phase) (arrived : Arrived) (arriving : ArrivingState) → CanPass phase arriving → IsOfCounted arrived arriving → MayServe phase arrived
serves_of phase (Whole frame) arriving can is = tt
serves_of phase (Passed out) arriving can is = (
  is.1,
  rw is.2 (subst (λ (n : ℕ). IsUntaken phase (brought (take header_length arriving.bytes) n)) (sym (data_length-take arriving.bytes)) (can is.0).1),
)

-- what was taken may be served
pub may_serve : {A E : Type 0} (arrived : A → Arrived) (phase : Phase) (r : Result (Option A) E) (arriving : ArrivingState) → CanPass phase arriving
    → IfOk r (λ o. IfSome o (λ taken. IsOfCounted (arrived taken) arriving)) → IfOk r (λ o. IfSome o (λ taken. MayServe phase (arrived taken)))
may_serve arrived phase (Ok (Some taken)) arriving can is = serves_of phase (arrived taken) arriving can is
may_serve arrived phase (Ok None) arriving can is = tt
may_serve arrived phase (Err fault) arriving can is = tt
