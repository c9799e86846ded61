-- How a replay ends.
use Rattle.std.proofs.Common.{◌≡◌, ℕ, ◌<◌, List, [], ◌++◌, length, refl, sym, ap, subst, ◌∙◌, Option, None, Some, append_assoc, append-nil, Result, Ok}
use Rattle.std.specs.Prelude.{IfSome}
use Rattle.std.specs.List.{slice_split}
use Rattle.std.specs.Io.KnownBytes.{Appends, Consumes, IsAtEnd, ReadConsumes}
use Rattle.std.proofs.KnownBytes.{Appends-trans, Consumes-trans, Consumes-whole}
use Rattle.iscsi_target.specs.World.{Setting}
use Rattle.iscsi_target.specs.Machine.{Machine}
use Rattle.target_replay.specs.declared.fault.ReplayFault.{ReplayFault}
use Rattle.target_replay.specs.declared.fault.ReplayFault.TheVariants as faults
use Rattle.target_replay.specs.Comings.{Kind, AsCame}
use Rattle.target_replay.specs.Lines.{is_newline, lines, Prints, StopsBy}
use Rattle.target_replay.specs.Reply.{reply_in, Course, course}
use Rattle.target_replay.specs.Engine.{Progress, HasTaken, Stops, Finishes, StopsLast}
use Rattle.target_replay.specs.Replay.{EndsWhole, EndsAtLine, EndsUnread, EndsByFault}
use Rattle.target_replay.proofs.LineLemmas.{split_last}
use Rattle.target_replay.proofs.Taking.{taken_print}

-- what the reader gave is the beginning of its input
consumed : (a b : Option (List ℕ)) (bytes : List ℕ) (P : List ℕ → Type 0) → Consumes a b bytes → ((rest : List ℕ) → P (bytes ++ rest)) → IfSome a P
consumed None b bytes P h p = tt
consumed (Some xs) None bytes P h p = absurd h
consumed (Some xs) (Some ys) bytes P h p = subst P (sym h) (p ys)

-- a read that gives no byte tells the end
pub read_end : {E : Type 0} (r0 r1 r2 : Option (List ℕ)) (r : Result ℕ E) (buffer bytes : List ℕ) (n : ℕ) → Consumes r0 r1 bytes → r ≡ Ok n → n ≡ 0
    → 0 < length buffer
    → ReadConsumes r1 r2 r buffer → Consumes r0 r2 bytes × IsAtEnd r2
read_end {E} r0 r1 r2 r buffer bytes n took is none room read =
    let now : ReadConsumes {E = E} r1 r2 (Ok 0) buffer = subst (λ (r : Result ℕ E). ReadConsumes r1 r2 r buffer) (is ∙ ap (λ (n : ℕ). Ok n) none) read in
    (subst (λ (bytes : List ℕ). Consumes r0 r2 bytes) (append-nil bytes) (Consumes-trans r0 r1 r2 bytes [] took now.0), now.1 refl room)

-- the input ended, and its last line was carried out
pub whole_done : (kind : Kind) (s : Setting) (engine : Progress) (target : Machine) (bytes text : List ℕ) (r0 r1 w0 w1 w2 : Option (List ℕ))
    → Consumes r0 r1 bytes → IsAtEnd r1 → Appends w0 w1 text → HasTaken kind s bytes engine text → Finishes kind engine target w1 w2
    → AsCame kind target (λ comings. EndsWhole (reply_in s) (course [] comings) r0 r1 w0 w2)
whole_done kind s engine target bytes text r0 r1 w0 w1 w2 took end printed h last =
    let more = last s bytes text h in
    let start = course [] more.2.0 in (
      more.2.0,
      more.2.1,
      Consumes-whole r0 r1 bytes (λ input. (text : List ℕ) × Appends w0 w2 text × Prints (reply_in s) start (lines input) text) took end
          (text ++ more.0, Appends-trans w0 w1 w2 text more.0 printed more.1, more.2.2),
    )

-- a line ends a replay by no fault of the input
ends : (fault : ReplayFault) (s : Setting) (start : Course) (r0 r1 w0 w1 : Option (List ℕ)) (input text : List ℕ)
    → StopsBy (reply_in s) fault start input text → EndsAtLine (reply_in s) start r0 r1 w0 w1 fault → EndsByFault (reply_in s) start r0 r1 w0 w1 fault
unfolding StopsBy
ends (faults.Refused number) s start r0 r1 w0 w1 input text stop e = e
ends faults.OutOfMemory s start r0 r1 w0 w1 input text stop e = e
ends faults.Output s start r0 r1 w0 w1 input text stop e = e
ends faults.Input s start r0 r1 w0 w1 input text stop e = absurd stop

-- the input ended, and its last line stopped the replay
pub whole_stopped : (kind : Kind) (fault : ReplayFault) (s : Setting) (engine : Progress) (target : Machine) (bytes text : List ℕ)
    (r0 r1 w0 w1 w2 : Option (List ℕ)) → Consumes r0 r1 bytes → IsAtEnd r1 → Appends w0 w1 text
    → HasTaken kind s bytes engine text → StopsLast kind engine target w1 w2 fault
    → AsCame kind target (λ comings. EndsByFault (reply_in s) (course [] comings) r0 r1 w0 w2 fault)
whole_stopped kind fault s engine target bytes text r0 r1 w0 w1 w2 took end printed h last =
    let more = last s bytes text h in
    let start = course [] more.2.0 in (
      more.2.0,
      more.2.1,
      ends fault s start r0 r1 w0 w2 bytes (text ++ more.0) more.2.2
          (Consumes-whole r0 r1 bytes (λ input. (text : List ℕ) × Appends w0 w2 text × StopsBy (reply_in s) fault start input text) took end
          (text ++ more.0, Appends-trans w0 w1 w2 text more.0 printed more.1, more.2.2)),
    )

-- a line stopped the replay before the input ended
pub part_stopped : (kind : Kind) (fault : ReplayFault) (s : Setting) (engine : Progress) (target : Machine) (bytes piece text : List ℕ)
    (r0 r1 r2 w0 w1 w2 : Option (List ℕ)) → Consumes r0 r1 bytes → Consumes r1 r2 piece → Appends w0 w1 text
    → HasTaken kind s bytes engine text → Stops kind engine piece target w1 w2 fault
    → AsCame kind target (λ comings. EndsByFault (reply_in s) (course [] comings) r0 r2 w0 w2 fault)
part_stopped kind fault s engine target bytes piece text r0 r1 r2 w0 w1 w2 took next printed h last =
    let more = last s bytes text h in
    let start = course [] more.2.0 in (
      more.2.0,
      more.2.1,
      ends fault s start r0 r2 w0 w2 (bytes ++ (piece ++ [])) (text ++ more.0) (more.2.2 [])
          (consumed r0 r2 (bytes ++ piece) (λ input. (text : List ℕ) × Appends w0 w2 text × StopsBy (reply_in s) fault start input text)
          (Consumes-trans r0 r1 r2 bytes piece took next)
          (λ rest. (
            text ++ more.0,
            Appends-trans w0 w1 w2 text more.0 printed more.1,
            subst (λ (input : List ℕ). StopsBy (reply_in s) fault start input (text ++ more.0)) (sym (append_assoc bytes piece rest)) (more.2.2 rest),
          ))),
    )

-- the input failed
pub unread : (kind : Kind) (s : Setting) (engine : Progress) (bytes text : List ℕ) (r0 r1 w0 w1 : Option (List ℕ)) → Consumes r0 r1 bytes
    → Appends w0 w1 text → HasTaken kind s bytes engine text
    → AsCame kind engine.target (λ comings. EndsUnread (reply_in s) (course [] comings) r0 r1 w0 w1)
unread kind s engine bytes text r0 r1 w0 w1 took printed h = (
  h.comings,
  h.suits,
  (
    bytes,
    h.ended,
    engine.pending,
    text,
    took,
    ap (slice_split is_newline) (sym (append-nil bytes)) ∙ h.cut []
        ∙ ap (λ (line : List ℕ). h.ended ++ slice_split is_newline line) (append-nil engine.pending)
        ∙ ap (λ (parts : List (List ℕ)). h.ended ++ parts) (split_last engine.pending engine.one_line),
    (course h.now [], taken_print kind s bytes text engine h),
    printed,
  ),
)
