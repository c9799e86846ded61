-- What an engine takes of the input, line by line, and how it stops.
use Rattle.std.proofs.Common.{◌≡◌, ℕ, ◌+◌, ◌<◌, List, [], ◌∷◌, ◌++◌, length, length-append, refl, sym, ap, subst, ◌∙◌, Option, None, Some, arith, append_assoc, append-nil}
use Rattle.std.specs.Prelude.{All, Result, Ok, Err, OnOk, OnErr, IfErr, IsErrAnd}
use Rattle.std.specs.List.{slice_split}
use Rattle.std.specs.Io.KnownBytes.{Appends}
use Rattle.std.proofs.KnownBytes.{Appends-nil, Appends-kept, Keeps-refl}
use Rattle.std.proofs.lemmas.List.Elements.{All-nil, All-push}
use Rattle.iscsi_session.specs.Comings.{Coming}
use Rattle.iscsi_target.specs.History.{History}
use Rattle.iscsi_target.specs.World.{Setting, world}
use Rattle.iscsi_target.specs.Machine.{Machine, ReflectsSoundness}
use Rattle.iscsi_target.proofs.Standing.{stands_machine}
use Rattle.target_replay.specs.declared.fault.ReplayFault.{ReplayFault}
use Rattle.target_replay.specs.declared.fault.ReplayFault.TheVariants as faults
use Rattle.target_replay.specs.Comings.{Kind, IsOf, Suits}
use Rattle.target_replay.specs.Lines.{is_newline, lines, carried_out, StopsBy}
use Rattle.target_replay.specs.Printed.{all_sent, HasSentAll}
use Rattle.target_replay.specs.Reply.{HasReplied, reply_by, reply_in, course, going_on}
use Rattle.target_replay.specs.Engine.{Progress, HasTaken, Takes, Stops, Finishes, StopsLast, LineEnds, LineUnprinted, LineFails}
use Rattle.target_replay.proofs.Comings.{same_back, all_later, printed_as, with_text, with_comings, line_more, line_last}
use Rattle.target_replay.proofs.Pieces.{takes_more, stops_behind, passed_on}
use Rattle.target_replay.proofs.LineLemmas.{lines_behind, split_next, lines_next, lines_last, no_lines, carried_out_refused}

-- ---- what was taken

-- what its lines print
pub taken_print : (kind : Kind) (s : Setting) (bytes text : List ℕ) (engine : Progress) (h : HasTaken kind s bytes engine text)
    → printed_as s h.comings h.ended text h.now []
taken_print kind s bytes text engine h =
    with_comings s (h.comings ++ []) h.comings h.ended text h.now [] (append-nil h.comings) (h.prints [])

nothing_more : (kind : Kind) (s : Setting) (bytes text : List ℕ) (engine : Progress) (h : HasTaken kind s bytes engine text)
    → printed_as s h.comings h.ended (text ++ []) h.now []
nothing_more kind s bytes text engine h =
    with_text s h.comings h.ended text (text ++ []) h.now [] (sym (append-nil text)) (taken_print kind s bytes text engine h)

pub begun : (kind : Kind) (s : Setting) (engine : Progress) → HasSentAll s [] engine.target → engine.pending ≡ [] → engine.number ≡ 0
    → HasTaken kind s [] engine []
begun kind s engine stands pending number = record {
  ended = [];
  cut = λ rest. ap (λ (line : List ℕ). slice_split is_newline (line ++ rest)) (sym pending);
  number = number;
  comings = [];
  suits = All-nil (Suits kind engine.target);
  now = [];
  prints = λ ahead. refl;
  stands = stands;
}

-- more of the pending line
pub pending_more : (kind : Kind) (s : Setting) (bytes more text : List ℕ) (old new : Progress) → new.target ≡ old.target → new.number ≡ old.number
    → new.pending ≡ old.pending ++ more
    → HasTaken kind s bytes old text → HasTaken kind s (bytes ++ more) new text
pending_more kind s bytes more text old new target number pending h = record {
  ended = h.ended;
  cut = λ rest.
      ap (slice_split is_newline) (append_assoc bytes more rest) ∙ h.cut (more ++ rest)
      ∙ ap (λ (line : List ℕ). h.ended ++ slice_split is_newline line) (sym (append_assoc old.pending more rest))
      ∙ ap (λ (line : List ℕ). h.ended ++ slice_split is_newline (line ++ rest)) (sym pending);
  number = number ∙ h.number;
  comings = h.comings;
  suits = all_later kind old.target new.target (same_back old.target new.target target) h.comings h.suits;
  now = h.now;
  prints = h.prints;
  stands = stands_machine s (all_sent (world s h.now)) h.now old.target new.target (sym target) h.stands;
}

-- the pending line is ended by a newline
pub line_ended : (kind : Kind) (s : Setting) (bytes text : List ℕ) (old new : Progress) (w0 w1 : Option (List ℕ))
    (h : HasTaken kind s bytes old text) (e : LineEnds kind s h.now old.pending new.target w0 w1) → ReflectsSoundness old.target new.target
    → new.pending ≡ [] → new.number ≡ old.number + 1 → HasTaken kind s (bytes ++ 10 ∷ []) new (text ++ e.text)
line_ended kind s bytes text old new w0 w1 h e back pending number = record {
  ended = h.ended ++ old.pending ∷ [];
  cut = λ rest.
      ap (slice_split is_newline) (append_assoc bytes (10 ∷ []) rest) ∙ h.cut (10 ∷ rest)
      ∙ ap (λ (parts : List (List ℕ)). h.ended ++ parts) (split_next old.pending rest old.one_line)
      ∙ sym (append_assoc h.ended (old.pending ∷ []) (slice_split is_newline rest))
      ∙ ap (λ (line : List ℕ). (h.ended ++ old.pending ∷ []) ++ slice_split is_newline (line ++ rest)) (sym pending);
  number = number ∙ omega (arith, h.number, length-append h.ended (old.pending ∷ []));
  comings = h.comings ++ e.comings ∷ [];
  suits = All-push (Suits kind new.target) h.comings e.comings (all_later kind old.target new.target back h.comings h.suits) e.suits;
  now = e.now;
  prints = λ ahead. line_more s h.comings e.comings ahead h.now e.now h.ended old.pending text e.text (h.prints (e.comings ∷ ahead)) e.replied;
  stands = e.stands;
}

-- ---- a line that is carried out

pub line_ends : (r : Result (Unit {0}) ReplayFault) (old : Progress) (target : Machine) (text : List ℕ) (w0 w1 : Option (List ℕ))
    → ((kind : Kind) → IsOf kind target → (s : Setting) (h : History) → HasSentAll s h old.target → HasReplied kind s h old.pending text target)
    → OnOk r (Appends w0 w1 text)
    → OnOk r ((kind : Kind) → IsOf kind target → (s : Setting) (h : History) → HasSentAll s h old.target → LineEnds kind s h old.pending target w0 w1)
line_ends (Err fault) old target text w0 w1 replied whole = tt
line_ends (Ok x) old target text w0 w1 replied whole = λ kind is s h stands.
    (let now = replied kind is s h stands in
    record { text = text; comings = now.comings; suits = now.suits; now = now.now; replied = now.replied; stands = now.stands; printed = whole })

-- ---- how a line stops it

-- it is refused
pub line_refused : (old : Progress) (target : Machine) (number : ℕ) (w : Option (List ℕ))
    → ((kind : Kind) → IsOf kind target → (s : Setting) (h : History) → HasSentAll s h old.target → (comings : List Coming)
    → reply_by s comings h old.pending ≡ None)
    → number ≡ old.number + 1 → (kind : Kind) → IsOf kind target → (s : Setting) (h : History) → HasSentAll s h old.target
    → LineFails kind s h old target w w (faults.Refused number)
line_refused old target number w refused next kind is s h stands = (refused kind is s h stands, next, Keeps-refl w)

-- a write failed
pub line_fails : (r : Result (Unit {0}) ReplayFault) (old : Progress) (target : Machine) (text : List ℕ) (w0 w1 : Option (List ℕ))
    → ((kind : Kind) → IsOf kind target → (s : Setting) (h : History) → HasSentAll s h old.target → HasReplied kind s h old.pending text target)
    → OnErr r ((part : List ℕ) × (unprinted : List ℕ) × (text ≡ part ++ unprinted) × Appends w0 w1 part) → IfErr r (λ fault. fault ≡ faults.Output)
    → IfErr r (λ fault. (kind : Kind) → IsOf kind target → (s : Setting) (h : History) → HasSentAll s h old.target
    → LineFails kind s h old target w0 w1 fault)
line_fails (Ok x) old target text w0 w1 replied part output = tt
line_fails (Err fault) old target text w0 w1 replied part output = λ kind is s h stands.
    (let now = replied kind is s h stands in
    let unprinted : LineUnprinted kind s h old.pending target w0 w1 = record {
      part = part.0;
      unprinted = part.1;
      comings = now.comings;
      suits = now.suits;
      now = now.now;
      replied = now.replied ∙ ap (λ (text : List ℕ). Some (text, now.now)) part.2;
      printed = part.3;
    } in
    subst (LineFails kind s h old target w0 w1) (sym output) unprinted)

-- what was printed of it, and how the commands came out of all lines that were carried out
shown : (kind : Kind) (s : Setting) (past : History) (old : Progress) (target : Machine) (w0 w1 : Option (List ℕ)) (fault : ReplayFault)
    → LineFails kind s past old target w0 w1 fault → (before : List (List Coming)) → All (Suits kind target) before
    → (text : List ℕ) × Appends w0 w1 text × (comings : List (List Coming)) × All (Suits kind target) comings
shown kind s past old target w0 w1 (faults.Refused number) f before suits = ([], Appends-kept w0 w0 w1 [] (Appends-nil w0) f.2, before, suits)
shown kind s past old target w0 w1 faults.OutOfMemory f before suits = ([], Appends-kept w0 w0 w1 [] (Appends-nil w0) f, before, suits)
shown kind s past old target w0 w1 faults.Output f before suits =
    (f.part, f.printed, before ++ f.comings ∷ [], All-push (Suits kind target) before f.comings suits f.suits)
shown kind s past old target w0 w1 faults.Input f before suits = absurd f

-- the pending line is the next one of the input
stopped : (kind : Kind) (old : Progress) (target : Machine) (w0 w1 : Option (List ℕ)) (fault : ReplayFault) (s : Setting)
    (bytes text input : List ℕ) (h : HasTaken kind s bytes old text) (f : LineFails kind s h.now old target w0 w1 fault)
    (suits : All (Suits kind target) h.comings)
    (behind : List (List ℕ)) → lines input ≡ (h.ended ++ old.pending ∷ []) ++ behind
    → StopsBy (reply_in s) fault (course [] (shown kind s h.now old target w0 w1 fault f h.comings suits).2) input
    (text ++ (shown kind s h.now old target w0 w1 fault f h.comings suits).0)
unfolding StopsBy shown
stopped kind old target w0 w1 (faults.Refused number) s bytes text input h f suits behind e = (
  h.ended,
  old.pending,
  (behind, e),
  (course h.now [], nothing_more kind s bytes text old h),
  carried_out_refused (reply_in s) (course [] h.comings) (course h.now []) h.ended old.pending (text ++ []) (nothing_more kind s bytes text old h)
      (ap (going_on []) (f.0 [])),
  f.1 ∙ ap (λ (n : ℕ). n + 1) h.number,
)
stopped kind old target w0 w1 faults.OutOfMemory s bytes text input h f suits behind e = (
  h.ended,
  (old.pending ∷ behind, e ∙ append_assoc h.ended (old.pending ∷ []) behind),
  (course h.now [], nothing_more kind s bytes text old h),
)
stopped kind old target w0 w1 faults.Output s bytes text input h f suits behind e = (
  h.ended ++ old.pending ∷ [],
  f.unprinted,
  (behind, e),
  (
    course f.now [],
    with_text s (h.comings ++ f.comings ∷ []) (h.ended ++ old.pending ∷ []) (text ++ (f.part ++ f.unprinted)) ((text ++ f.part) ++ f.unprinted) f.now []
        (sym (append_assoc text f.part f.unprinted))
        (line_last s h.comings f.comings h.now f.now h.ended old.pending text (f.part ++ f.unprinted) (h.prints (f.comings ∷ [])) f.replied),
  ),
)
stopped kind old target w0 w1 faults.Input s bytes text input h f suits behind e = absurd f

-- a newline ends the pending line, and it stops the replay
pub line_stops : (kind : Kind) (old : Progress) (target : Machine) (w0 w1 : Option (List ℕ)) (fault : ReplayFault)
    → ReflectsSoundness old.target target → ((s : Setting) (h : History) → HasSentAll s h old.target → LineFails kind s h old target w0 w1 fault)
    → Stops kind old (10 ∷ []) target w0 w1 fault
line_stops kind old target w0 w1 fault back fails s bytes before h =
    let f = fails s h.now h.stands in
    let suits = all_later kind old.target target back h.comings h.suits in
    let x = shown kind s h.now old target w0 w1 fault f h.comings suits in (
      x.0,
      x.1,
      (
        x.2,
        x.3,
        λ rest. stopped kind old target w0 w1 fault s bytes before (bytes ++ (10 ∷ rest)) h f suits (lines rest)
            (lines_behind (bytes ++ (10 ∷ rest)) (old.pending ++ 10 ∷ rest) h.ended (h.cut (10 ∷ rest))
            ∙ ap (λ (behind : List (List ℕ)). h.ended ++ behind) (lines_next old.pending rest old.one_line)
            ∙ sym (append_assoc h.ended (old.pending ∷ []) (lines rest))),
      ),
    )

all_lines : (kind : Kind) (s : Setting) (bytes text : List ℕ) (old : Progress) (h : HasTaken kind s bytes old text)
    → lines bytes ≡ h.ended ++ lines old.pending
all_lines kind s bytes text old h =
    lines_behind bytes old.pending h.ended
    (ap (slice_split is_newline) (sym (append-nil bytes)) ∙ h.cut [] ∙ ap (λ (line : List ℕ). h.ended ++ slice_split is_newline line) (append-nil old.pending))

with_last : (kind : Kind) (s : Setting) (bytes text : List ℕ) (old : Progress) (h : HasTaken kind s bytes old text) → 0 < length old.pending
    → lines bytes ≡ h.ended ++ old.pending ∷ []
with_last kind s bytes text old h some =
    all_lines kind s bytes text old h ∙ ap (λ (behind : List (List ℕ)). h.ended ++ behind) (lines_last old.pending old.one_line some)

-- the input ends, and its last line stops the replay
pub last_stops : (kind : Kind) (old : Progress) (target : Machine) (w0 w1 : Option (List ℕ)) (fault : ReplayFault) → 0 < length old.pending
    → ReflectsSoundness old.target target
    → ((s : Setting) (h : History) → HasSentAll s h old.target → LineFails kind s h old target w0 w1 fault) → StopsLast kind old target w0 w1 fault
last_stops kind old target w0 w1 fault some back fails s bytes before h =
    let f = fails s h.now h.stands in
    let suits = all_later kind old.target target back h.comings h.suits in
    let x = shown kind s h.now old target w0 w1 fault f h.comings suits in (
      x.0,
      x.1,
      (
        x.2,
        x.3,
        stopped kind old target w0 w1 fault s bytes before bytes h f suits []
            (with_last kind s bytes before old h some ∙ sym (append-nil (h.ended ++ old.pending ∷ []))),
      ),
    )

-- the input ends after a newline, or with a last line
pub none_finishes : (kind : Kind) (old : Progress) (w : Option (List ℕ)) → old.pending ≡ [] → Finishes kind old old.target w w
none_finishes kind old w none s bytes before h = (
  [],
  Appends-nil w,
  (
    h.comings,
    h.suits,
    (
      course h.now [],
      ap (carried_out (reply_in s) (course [] h.comings)) (all_lines kind s bytes before old h ∙ ap (λ (line : List ℕ). h.ended ++ lines line) none
          ∙ ap (λ (behind : List (List ℕ)). h.ended ++ behind) no_lines ∙ append-nil h.ended)
          ∙ nothing_more kind s bytes before old h,
    ),
  ),
)

last_finishes : (kind : Kind) (old new : Progress) (w0 w1 : Option (List ℕ)) → 0 < length old.pending → ReflectsSoundness old.target new.target
    → ((s : Setting) (h : History) → HasSentAll s h old.target → LineEnds kind s h old.pending new.target w0 w1)
    → Finishes kind old new.target w0 w1
last_finishes kind old new w0 w1 some back ends s bytes before h =
    let e = ends s h.now h.stands in (
      e.text,
      e.printed,
      (
        h.comings ++ e.comings ∷ [],
        All-push (Suits kind new.target) h.comings e.comings (all_later kind old.target new.target back h.comings h.suits) e.suits,
        (
          course e.now [],
          ap (carried_out (reply_in s) (course [] (h.comings ++ e.comings ∷ []))) (with_last kind s bytes before old h some)
              ∙ line_last s h.comings e.comings h.now e.now h.ended old.pending before e.text (h.prints (e.comings ∷ [])) e.replied,
        ),
      ),
    )

pub last_line_finishes : (r : Result (Unit {0}) ReplayFault) (old new : Progress) (w0 w1 : Option (List ℕ)) → 0 < length old.pending
    → ReflectsSoundness old.target new.target
    → OnOk r ((kind : Kind) → IsOf kind new.target → (s : Setting) (h : History) → HasSentAll s h old.target
    → LineEnds kind s h old.pending new.target w0 w1)
    → OnOk r ((kind : Kind) → IsOf kind new.target → Finishes kind old new.target w0 w1)
last_line_finishes (Err fault) old new w0 w1 some back ends = tt
last_line_finishes (Ok x) old new w0 w1 some back ends = λ kind is. last_finishes kind old new w0 w1 some back (ends kind is)

-- ---- a line that comes whole

-- more of the pending line takes the engine on, and prints nothing
pub pushed : (kind : Kind) (old new : Progress) (more : List ℕ) (w : Option (List ℕ)) → new.pending ≡ old.pending ++ more → new.target ≡ old.target
    → new.number ≡ old.number → Takes kind old more new w w
pushed kind old new more w pending target number s bytes before h = (
  [],
  Appends-nil w,
  subst (λ (text : List ℕ). HasTaken kind s (bytes ++ more) new text) (sym (append-nil before))
      (pending_more kind s bytes more before old new target number pending h),
)

pub line_takes : (r : Result (Unit {0}) ReplayFault) (old mid new : Progress) (rest : List ℕ) (w0 w1 : Option (List ℕ))
    → mid.pending ≡ old.pending ++ rest → mid.target ≡ old.target → mid.number ≡ old.number → ReflectsSoundness mid.target new.target
    → OnOk r ((kind : Kind) → IsOf kind new.target → (s : Setting) (h : History) → HasSentAll s h mid.target
    → LineEnds kind s h mid.pending new.target w0 w1)
    → OnOk r (new.pending ≡ []) → OnOk r (new.number ≡ mid.number + 1)
    → OnOk r ((kind : Kind) → IsOf kind new.target → Takes kind old (rest ++ 10 ∷ []) new w0 w1)
line_takes (Err fault) old mid new rest w0 w1 pending target number back ends none next = tt
line_takes (Ok x) old mid new rest w0 w1 pending target number back ends none next = λ kind is s bytes before h.
    (let more = pending_more kind s bytes rest before old mid target number pending h in
    let e = ends kind is s more.now more.stands in (
      e.text,
      e.printed,
      subst (λ (bytes : List ℕ). HasTaken kind s bytes new (before ++ e.text)) (append_assoc bytes rest (10 ∷ []))
          (line_ended kind s (bytes ++ rest) before mid new w0 w1 more e back none next),
    ))

pub line_stopped : (r : Result (Unit {0}) ReplayFault) (old mid : Progress) (target_then : Machine) (rest : List ℕ) (w0 w1 : Option (List ℕ))
    → mid.pending ≡ old.pending ++ rest → mid.target ≡ old.target → mid.number ≡ old.number → ReflectsSoundness mid.target target_then
    → IfErr r (λ fault. (kind : Kind) → IsOf kind target_then → (s : Setting) (h : History) → HasSentAll s h mid.target
    → LineFails kind s h mid target_then w0 w1 fault)
    → IfErr r (λ fault. (kind : Kind) → IsOf kind target_then → Stops kind old (rest ++ 10 ∷ []) target_then w0 w1 fault)
line_stopped (Ok x) old mid target_then rest w0 w1 pending target number back f = tt
line_stopped (Err fault) old mid target_then rest w0 w1 pending target number back f = λ kind is.
    stops_behind kind old mid rest (10 ∷ []) target_then w0 w0 w1 fault (pushed kind old mid rest w0 pending target number)
    (line_stops kind mid target_then w0 w1 fault back (f kind is))

-- ---- memory that runs out before a line is carried out

pub memory_stops : (kind : Kind) (old : Progress) (piece : List ℕ) (target : Machine) (w : Option (List ℕ)) → target ≡ old.target
    → Stops kind old piece target w w faults.OutOfMemory
unfolding StopsBy
memory_stops kind old piece target w same s bytes before h = (
  [],
  Appends-nil w,
  (
    h.comings,
    all_later kind old.target target (same_back old.target target same) h.comings h.suits,
    λ rest. (
      h.ended,
      (lines (old.pending ++ (piece ++ rest)), lines_behind (bytes ++ (piece ++ rest)) (old.pending ++ (piece ++ rest)) h.ended (h.cut (piece ++ rest))),
      (course h.now [], nothing_more kind s bytes before old h),
    ),
  ),
)

pub memory_passed_on : (r : Result (Unit {0}) ReplayFault) (fault : ReplayFault) (old : Progress) (piece : List ℕ) (target : Machine)
    (w : Option (List ℕ)) → IsErrAnd r (λ (other : ReplayFault). other ≡ fault) → fault ≡ faults.OutOfMemory → target ≡ old.target
    → IfErr r (λ fault. (kind : Kind) → IsOf kind target → Stops kind old piece target w w fault)
memory_passed_on r fault old piece target w is memory same =
    passed_on r fault (λ fault. (kind : Kind) → IsOf kind target → Stops kind old piece target w w fault) is
    (λ kind of. subst (Stops kind old piece target w w) (sym memory) (memory_stops kind old piece target w same))

-- ---- a piece, line by line, whose rest has no newline

pub rest_takes : (r : Result (Unit {0}) ReplayFault) (a b new : Progress) (piece taken rest : List ℕ) (w0 w1 : Option (List ℕ))
    → piece ≡ taken ++ rest → ((kind : Kind) → IsOf kind b.target → Takes kind a taken b w0 w1)
    → OnOk r (new.pending ≡ b.pending ++ rest) → new.target ≡ b.target → new.number ≡ b.number
    → OnOk r ((kind : Kind) → IsOf kind new.target → Takes kind a piece new w0 w1)
rest_takes (Err fault) a b new piece taken rest w0 w1 e first pending target number = tt
rest_takes (Ok x) a b new piece taken rest w0 w1 e first pending target number = λ kind is.
    subst (λ (piece : List ℕ). Takes kind a piece new w0 w1) (sym e)
    (takes_more kind a b new taken rest w0 w1 w1 (first kind (subst (IsOf kind) target is)) (pushed kind b new rest w1 pending target number))

pub rest_stopped : (r : Result (Unit {0}) ReplayFault) (a b : Progress) (target : Machine) (piece taken rest : List ℕ) (w0 w1 : Option (List ℕ))
    → piece ≡ taken ++ rest → ((kind : Kind) → IsOf kind b.target → Takes kind a taken b w0 w1) → target ≡ b.target
    → IfErr r (λ fault. fault ≡ faults.OutOfMemory)
    → IfErr r (λ fault. (kind : Kind) → IsOf kind target → Stops kind a piece target w0 w1 fault)
rest_stopped (Ok x) a b target piece taken rest w0 w1 e first same memory = tt
rest_stopped (Err fault) a b target piece taken rest w0 w1 e first same memory = λ kind is.
    subst (λ (piece : List ℕ). Stops kind a piece target w0 w1 fault) (sym e)
    (stops_behind kind a b taken rest target w0 w1 w1 fault (first kind (subst (IsOf kind) same is))
    (subst (Stops kind b rest target w1 w1) (sym memory) (memory_stops kind b rest target w1 same)))
