use Rattle.std.proofs.Common.{◌≡◌, ◌+◌, ◌<◌, ◌++◌, ℕ, List, length, take, true, if◌then◌else◌, refl, sym, ap, ◌∙◌, subst}
use Rattle.iscsi_pdu.specs.Header.{header_length, opcode_number}
use Rattle.iscsi_pdu.specs.Frames.{Frame, first_frame, is_long}
use Rattle.iscsi_framer.proofs.Fronts.{no_fault}
use Rattle.iscsi_world.specs.History.{arrivals}
use Rattle.iscsi_world.proofs.Choices.{cond_true}
use Rattle.iscsi_world.proofs.Taking.{none_whole}
use Rattle.iscsi_connection.specs.Passing.{bytes_noted, IsCounted}
use Rattle.iscsi_connection.specs.Arriving.{ArrivingState, IsUntaken, out_in}
use Rattle.iscsi_connection.proofs.Whole.{header_of, opcode_of_out}
use Rattle.iscsi_connection.proofs.Ahead.{gives_used, passes_more}
use Rattle.iscsi_connection.proofs.Counting.{counting_none, counting_one, never_long, never_fails, step_of, step_goes, step_stays, step_ends}
use Rattle.iscsi_connection.proofs.arriving.Arriving.count.Goals as goal

pub loop-more-init : goal.loop-more-init
loop-more-init c =
    let counted : c.self.inside.is_counted ≡ true = ap (λ (a : ArrivingState). a.is_counted) c.self.view_is ∙ c.requires in
    (counting_none c.self.inside.framer (bytes_noted c.self.inside.noted.calls) c.args.piece.now (c.self.invariant counted), counted)

pub take-requires : goal.take-requires
take-requires c = counting_one _ _ c.loop-more.self-inside.framer _ _ c.loop-more.used c.loop-more.invariant.0

-- ---- a Data-Out takes no memory

pub invariant_of-self : goal.invariant_of-self
invariant_of-self c = absurd (never_fails _ _ c.loop-more.self-inside.framer _ _ c.loop-more.used c.loop-more.invariant.0 c.in_err-more.ensures.lent)

pub returns-in_err-more-clause-too_long : goal.returns-in_err-more-clause-too_long
returns-in_err-more-clause-too_long c =
    absurd (never_fails _ _ c.loop-more.self-inside.framer _ _ c.loop-more.used c.loop-more.invariant.0 c.in_err-more.ensures.lent)

pub returns-in_err-more-clause-passing : goal.returns-in_err-more-clause-passing
returns-in_err-more-clause-passing c =
    absurd (never_fails _ _ c.loop-more.self-inside.framer _ _ c.loop-more.used c.loop-more.invariant.0 c.in_err-more.ensures.lent)

pub returns-in_err-more-clause-err : goal.returns-in_err-more-clause-err
returns-in_err-more-clause-err c =
    absurd (never_fails _ _ c.loop-more.self-inside.framer _ _ c.loop-more.used c.loop-more.invariant.0 c.in_err-more.ensures.lent)

-- ---- more of its data came

pub loop-more-preserved : goal.loop-more-preserved
loop-more-preserved c =
    let framer = c.self.inside.framer in
    let noted = bytes_noted c.self.inside.noted.calls in
    let bytes : List ℕ = take header_length framer ++ noted in
    let counted : c.self.inside.is_counted ≡ true = ap (λ (a : ArrivingState). a.is_counted) c.self.view_is ∙ c.requires in
    let is : IsCounted framer bytes = c.self.invariant counted in
    let got = c.in_ok-more.ensures in (
      step_goes framer noted c.loop-more.self-inside.framer (bytes_noted c.loop-more.self-inside.noted.calls) c.args.piece.now c.take.new.self
          (bytes_noted c.note.new.self.calls) c.loop-more.used c.in_ok-more.more c.in_ok-more.part c.in-Data.field-0 c.in-Data.field-1
          (step_of is c.loop-more.invariant.0 got.part got.one) c.in-Data.is (ap bytes_noted c.note.ensures),
      c.loop-more.invariant.1,
    )

-- ---- its last byte came

pub new-requires-in-End : goal.new-requires-in-End
new-requires-in-End c =
    let framer = c.self.inside.framer in
    let noted = bytes_noted c.self.inside.noted.calls in
    let bytes : List ℕ = take header_length framer ++ noted in
    let counted : c.self.inside.is_counted ≡ true = ap (λ (a : ArrivingState). a.is_counted) c.self.view_is ∙ c.requires in
    let is : IsCounted framer bytes = c.self.invariant counted in
    let got = c.in_ok-more.ensures in
    let later = bytes_noted c.replace-noted.result.calls in
    let w = step_ends framer noted c.loop-more.self-inside.framer (bytes_noted c.loop-more.self-inside.noted.calls) c.in-End.header c.args.piece.now
    c.take.new.self later c.loop-more.used c.in_ok-more.more c.in_ok-more.part (step_of is c.loop-more.invariant.0 got.part got.one)
    c.in-End.is (ap (λ r. bytes_noted r.calls) c.replace-noted.ensures.value ∙ ap bytes_noted c.note.ensures) in
    w.whole

pub returns-in-End-clause-given : goal.returns-in-End-clause-given
returns-in-End-clause-given c =
    let framer = c.self.inside.framer in
    let noted = bytes_noted c.self.inside.noted.calls in
    let bytes : List ℕ = take header_length framer ++ noted in
    let counted : c.self.inside.is_counted ≡ true = ap (λ (a : ArrivingState). a.is_counted) c.self.view_is ∙ c.requires in
    let old : c.args.self.now.bytes ≡ bytes = sym (ap (λ (a : ArrivingState). a.bytes) c.self.view_is) ∙ cond_true _ _ _ counted in
    let is : IsCounted framer bytes = c.self.invariant counted in
    let got = c.in_ok-more.ensures in
    let later = bytes_noted c.replace-noted.result.calls in
    let w = step_ends framer noted c.loop-more.self-inside.framer (bytes_noted c.loop-more.self-inside.noted.calls) c.in-End.header c.args.piece.now
    c.take.new.self later c.loop-more.used c.in_ok-more.more c.in_ok-more.part (step_of is c.loop-more.invariant.0 got.part got.one)
    c.in-End.is (ap (λ r. bytes_noted r.calls) c.replace-noted.ensures.value ∙ ap bytes_noted c.note.ensures) in
    let used = c.loop-more.used + c.in_ok-more.more in
    rw (c.new-in-End.ensures, w.same, old) (gives_used (first_frame (bytes ++ take used c.args.piece.now)) bytes c.args.piece.now used w.wholly)

pub returns-in-End-clause-passed : goal.returns-in-End-clause-passed
returns-in-End-clause-passed c =
    let framer = c.self.inside.framer in
    let noted = bytes_noted c.self.inside.noted.calls in
    let bytes : List ℕ = take header_length framer ++ noted in
    let counted : c.self.inside.is_counted ≡ true = ap (λ (a : ArrivingState). a.is_counted) c.self.view_is ∙ c.requires in
    let old : c.args.self.now.bytes ≡ bytes = sym (ap (λ (a : ArrivingState). a.bytes) c.self.view_is) ∙ cond_true _ _ _ counted in
    let is : IsCounted framer bytes = c.self.invariant counted in
    let got = c.in_ok-more.ensures in
    let later = bytes_noted c.replace-noted.result.calls in
    let w = step_ends framer noted c.loop-more.self-inside.framer (bytes_noted c.loop-more.self-inside.noted.calls) c.in-End.header c.args.piece.now
    c.take.new.self later c.loop-more.used c.in_ok-more.more c.in_ok-more.part (step_of is c.loop-more.invariant.0 got.part got.one)
    c.in-End.is (ap (λ r. bytes_noted r.calls) c.replace-noted.ensures.value ∙ ap bytes_noted c.note.ensures) in
    let header = ap (λ (frame : Frame). frame.header) c.new-in-End.ensures ∙ sym (header_of c.in-End.header later w.whole) in (
      c.requires,
      ap (λ (frame : Frame). opcode_number frame.header) c.new-in-End.ensures ∙ opcode_of_out (c.in-End.header ++ later) w.whole.out,
      header ∙ w.header_is ∙ ap (take header_length) (sym old),
    )

pub returns-in-End-clause-too_long : goal.returns-in-End-clause-too_long
returns-in-End-clause-too_long c =
    let framer = c.self.inside.framer in
    let noted = bytes_noted c.self.inside.noted.calls in
    let bytes : List ℕ = take header_length framer ++ noted in
    let counted : c.self.inside.is_counted ≡ true = ap (λ (a : ArrivingState). a.is_counted) c.self.view_is ∙ c.requires in
    let old : c.args.self.now.bytes ≡ bytes = sym (ap (λ (a : ArrivingState). a.bytes) c.self.view_is) ∙ cond_true _ _ _ counted in
    let is : IsCounted framer bytes = c.self.invariant counted in (
      λ e. absurd (no_fault e),
      λ long. absurd (never_long framer bytes c.args.piece.now is
          (ap (λ (x : List ℕ). is_long (x ++ c.args.piece.now)) (sym old) ∙ long)),
    )

-- ---- the piece ends before

pub invariant_of-self-in-Nothing : goal.invariant_of-self-in-Nothing
invariant_of-self-in-Nothing c =
    let framer = c.self.inside.framer in
    let noted = bytes_noted c.self.inside.noted.calls in
    let bytes : List ℕ = take header_length framer ++ noted in
    let counted : c.self.inside.is_counted ≡ true = ap (λ (a : ArrivingState). a.is_counted) c.self.view_is ∙ c.requires in
    let old : c.args.self.now.bytes ≡ bytes = sym (ap (λ (a : ArrivingState). a.bytes) c.self.view_is) ∙ cond_true _ _ _ counted in
    let is : IsCounted framer bytes = c.self.invariant counted in
    let got = c.in_ok-more.ensures in
    let kept = step_stays framer noted c.loop-more.self-inside.framer (bytes_noted c.loop-more.self-inside.noted.calls) c.args.piece.now c.take.new.self
    (bytes_noted c.note.new.self.calls) c.loop-more.used c.in_ok-more.more c.in_ok-more.part (step_of is c.loop-more.invariant.0 got.part got.one)
    c.in-Nothing.is (ap bytes_noted c.note.ensures) in
    λ counted. kept.counted

pub returns-in-Nothing-clause-kept : goal.returns-in-Nothing-clause-kept
returns-in-Nothing-clause-kept c =
    let framer = c.self.inside.framer in
    let noted = bytes_noted c.self.inside.noted.calls in
    let bytes : List ℕ = take header_length framer ++ noted in
    let counted : c.self.inside.is_counted ≡ true = ap (λ (a : ArrivingState). a.is_counted) c.self.view_is ∙ c.requires in
    let old : c.args.self.now.bytes ≡ bytes = sym (ap (λ (a : ArrivingState). a.bytes) c.self.view_is) ∙ cond_true _ _ _ counted in
    let is : IsCounted framer bytes = c.self.invariant counted in
    let got = c.in_ok-more.ensures in
    let kept = step_stays framer noted c.loop-more.self-inside.framer (bytes_noted c.loop-more.self-inside.noted.calls) c.args.piece.now c.take.new.self
    (bytes_noted c.note.new.self.calls) c.loop-more.used c.in_ok-more.more c.in_ok-more.part (step_of is c.loop-more.invariant.0 got.part got.one)
    c.in-Nothing.is (ap bytes_noted c.note.ensures) in
    let more = take header_length c.take.new.self ++ bytes_noted c.note.new.self.calls in
    let now : List ℕ = if c.loop-more.self-inside.is_counted then more else c.take.new.self in
    let shows : now ≡ c.args.self.now.bytes ++ c.args.piece.now =
    cond_true _ _ _ c.loop-more.invariant.1 ∙ kept.same ∙ ap (λ (x : List ℕ). x ++ c.args.piece.now) (sym old) in
    let both : c.loop-more.self-inside.is_counted ≡ c.args.self.now.is_counted = c.loop-more.invariant.1 ∙ sym c.requires in
    rw (shows, both) refl

pub returns-in-Nothing-clause-part : goal.returns-in-Nothing-clause-part
returns-in-Nothing-clause-part c =
    let framer = c.self.inside.framer in
    let noted = bytes_noted c.self.inside.noted.calls in
    let bytes : List ℕ = take header_length framer ++ noted in
    let counted : c.self.inside.is_counted ≡ true = ap (λ (a : ArrivingState). a.is_counted) c.self.view_is ∙ c.requires in
    let old : c.args.self.now.bytes ≡ bytes = sym (ap (λ (a : ArrivingState). a.bytes) c.self.view_is) ∙ cond_true _ _ _ counted in
    let is : IsCounted framer bytes = c.self.invariant counted in
    let got = c.in_ok-more.ensures in
    let kept = step_stays framer noted c.loop-more.self-inside.framer (bytes_noted c.loop-more.self-inside.noted.calls) c.args.piece.now c.take.new.self
    (bytes_noted c.note.new.self.calls) c.loop-more.used c.in_ok-more.more c.in_ok-more.part (step_of is c.loop-more.invariant.0 got.part got.one)
    c.in-Nothing.is (ap bytes_noted c.note.ensures) in
    ap (λ (x : List ℕ). arrivals (x ++ c.args.piece.now)) old ∙ none_whole (bytes ++ c.args.piece.now) kept.half.part kept.half.short

pub returns-in-Nothing-clause-too_long : goal.returns-in-Nothing-clause-too_long
returns-in-Nothing-clause-too_long c =
    let framer = c.self.inside.framer in
    let noted = bytes_noted c.self.inside.noted.calls in
    let bytes : List ℕ = take header_length framer ++ noted in
    let counted : c.self.inside.is_counted ≡ true = ap (λ (a : ArrivingState). a.is_counted) c.self.view_is ∙ c.requires in
    let old : c.args.self.now.bytes ≡ bytes = sym (ap (λ (a : ArrivingState). a.bytes) c.self.view_is) ∙ cond_true _ _ _ counted in
    let is : IsCounted framer bytes = c.self.invariant counted in (
      λ e. absurd (no_fault e),
      λ long. absurd (never_long framer bytes c.args.piece.now is
          (ap (λ (x : List ℕ). is_long (x ++ c.args.piece.now)) (sym old) ∙ long)),
    )

pub returns-in-Nothing-clause-passing : goal.returns-in-Nothing-clause-passing
returns-in-Nothing-clause-passing c =
    let framer = c.self.inside.framer in
    let noted = bytes_noted c.self.inside.noted.calls in
    let bytes : List ℕ = take header_length framer ++ noted in
    let counted : c.self.inside.is_counted ≡ true = ap (λ (a : ArrivingState). a.is_counted) c.self.view_is ∙ c.requires in
    let old : c.args.self.now.bytes ≡ bytes = sym (ap (λ (a : ArrivingState). a.bytes) c.self.view_is) ∙ cond_true _ _ _ counted in
    let is : IsCounted framer bytes = c.self.invariant counted in
    let got = c.in_ok-more.ensures in
    let kept = step_stays framer noted c.loop-more.self-inside.framer (bytes_noted c.loop-more.self-inside.noted.calls) c.args.piece.now c.take.new.self
    (bytes_noted c.note.new.self.calls) c.loop-more.used c.in_ok-more.more c.in_ok-more.part (step_of is c.loop-more.invariant.0 got.part got.one)
    c.in-Nothing.is (ap bytes_noted c.note.ensures) in
    let more = take header_length c.take.new.self ++ bytes_noted c.note.new.self.calls in
    let now : List ℕ = if c.loop-more.self-inside.is_counted then more else c.take.new.self in
    let shows : now ≡ c.args.self.now.bytes ++ c.args.piece.now =
    cond_true _ _ _ c.loop-more.invariant.1 ∙ kept.same ∙ ap (λ (x : List ℕ). x ++ c.args.piece.now) (sym old) in
    λ phase can again.
    (let now : ArrivingState = record c.args.self.now { bytes = c.args.self.now.bytes ++ c.args.piece.now } in
    let passes = passes_more phase c.args.self.now now c.args.piece.now refl can c.requires in
    subst (λ (x : List ℕ). (header_length < length x) × IsUntaken phase (out_in x)) (sym shows) passes)
