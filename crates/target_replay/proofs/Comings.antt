-- Of which targets something is said, and lines whose commands all came out as defined.
use Rattle.std.proofs.Common.{◌≡◌, ℕ, List, [], ◌∷◌, ◌++◌, drop, refl, sym, ap, ◌∙◌, subst, Option, None, Some, append_assoc, append-nil}
use Rattle.std.specs.Prelude.{All, option_map, option_and_then}
use Rattle.std.proofs.lemmas.List.Elements.{All-head, All-drop, All-weaker}
use Rattle.iscsi_session.specs.Comings.{Coming}
use Rattle.iscsi_target.specs.History.{Bytes, History, Mark, happening, plain}
use Rattle.iscsi_target.specs.World.{Setting}
use Rattle.iscsi_target.specs.Machine.{Machine, IsSound, IsSoundAt, ReflectsSoundness}
use Rattle.iscsi_target.specs.Stands.{Stands, StandsAfter}
use Rattle.iscsi_target.proofs.Reflected.{sound_back}
use Rattle.target_replay.specs.declared.fault.ReplayFault.{ReplayFault}
use Rattle.target_replay.specs.declared.fault.ReplayFault.TheVariants as faults
use Rattle.target_replay.specs.Comings.{Kind, Any, Sound, IsOf, Suits, AsCame}
use Rattle.target_replay.specs.Lines.{lines, printed_before, carried_out, Prints, StopsBy}
use Rattle.target_replay.specs.Reply.{reply, reply_by, reply_in, Course, course, next_line, going_on}
use Rattle.target_replay.specs.Replay.{EndsWhole, EndsAtLine, EndsUnread, EndsByFault, Ends, EndsBy}
use Rattle.target_replay.proofs.LineLemmas.{carried_out_more}

-- ---- a later target

pub same_back : (old new : Machine) → new ≡ old → ReflectsSoundness old new
same_back old new same = λ target sound. subst (IsSoundAt target) same sound

pub is_back : (kind : Kind) (old new : Machine) → ReflectsSoundness old new → IsOf kind new → IsOf kind old
is_back Any old new back is = tt
is_back Sound old new back is = sound_back old new back is

pub suits_later : (kind : Kind) (old new : Machine) → ReflectsSoundness old new → (comings : List Coming) → Suits kind old comings
    → Suits kind new comings
suits_later Any old new back comings calm = λ target sound. calm target (back target sound)
suits_later Sound old new back comings none = none

pub all_later : (kind : Kind) (old new : Machine) → ReflectsSoundness old new → (all : List (List Coming)) → All (Suits kind old) all
    → All (Suits kind new) all
all_later kind old new back all suits = All-weaker (Suits kind old) (Suits kind new) (suits_later kind old new back) all suits

-- ---- one event

-- no command is done
pub suits_none : (kind : Kind) (machine : Machine) → Suits kind machine []
suits_none Any machine = λ target sound. tt
suits_none Sound machine = refl

-- bytes came, and no allocation failed
pub fed : (kind : Kind) (s : Setting) (sent : ℕ → ℕ) (h : History) (c : ℕ) (piece : List ℕ) (now : Machine) → IsOf kind now
    → StandsAfter s sent h (Bytes c piece) None now → (IsSound now → Stands s sent now (h ++ plain (Bytes c piece) ∷ []))
    → (comings : List Coming) × Suits kind now comings × Stands s sent now (h ++ happening [] comings (Bytes c piece) ∷ [])
fed Any s sent h c piece now is after stands = (
  after.comings,
  after.calm,
  subst (λ (marks : List Mark). Stands s sent now (h ++ happening marks after.comings (Bytes c piece) ∷ [])) after.first after.stands,
)
fed Sound s sent h c piece now is after stands = ([], refl, stands is)

-- ---- lines whose commands came out so

abbrev pub printed_as : Setting → List (List Coming) → List (List ℕ) → List ℕ → History → List (List Coming) → Type 0
printed_as s comings front text now ahead = carried_out (reply_in s) (course [] comings) front ≡ Some (text, course now ahead)

pub with_text : (s : Setting) (comings : List (List Coming)) (front : List (List ℕ)) (text other : List ℕ) (now : History) (ahead : List (List Coming))
    → text ≡ other → printed_as s comings front text now ahead → printed_as s comings front other now ahead
with_text s comings front text other now ahead e prints = prints ∙ ap (λ (text : List ℕ). Some (text, course now ahead)) e

pub with_comings : (s : Setting) (comings other : List (List Coming)) (front : List (List ℕ)) (text : List ℕ) (now : History) (ahead : List (List Coming))
    → comings ≡ other → printed_as s comings front text now ahead → printed_as s other front text now ahead
with_comings s comings other front text now ahead e prints =
    subst (λ (comings : List (List Coming)). printed_as s comings front text now ahead) e prints

-- one more line
pub line_more : (s : Setting) (before : List (List Coming)) (comings : List Coming) (ahead : List (List Coming)) (now next : History)
    (front : List (List ℕ)) (line text more : List ℕ) → printed_as s (before ++ comings ∷ ahead) front text now (comings ∷ ahead)
    → reply_by s comings now line ≡ Some (more, next)
    → printed_as s ((before ++ comings ∷ []) ++ ahead) (front ++ line ∷ []) (text ++ more) next ahead
line_more s before comings ahead now next front line text more prints replied =
    with_comings s (before ++ comings ∷ ahead) ((before ++ comings ∷ []) ++ ahead) (front ++ line ∷ []) (text ++ more) next ahead
    (sym (append_assoc before (comings ∷ []) ahead))
    (carried_out_more (reply_in s) (course [] (before ++ comings ∷ ahead)) (course now (comings ∷ ahead)) (course next ahead) front line text more prints
    (ap (going_on ahead) replied))

-- and none after it
pub line_last : (s : Setting) (before : List (List Coming)) (comings : List Coming) (now next : History) (front : List (List ℕ)) (line text more : List ℕ)
    → printed_as s (before ++ comings ∷ []) front text now (comings ∷ []) → reply_by s comings now line ≡ Some (more, next)
    → printed_as s (before ++ comings ∷ []) (front ++ line ∷ []) (text ++ more) next []
line_last s before comings now next front line text more prints replied =
    with_comings s ((before ++ comings ∷ []) ++ []) (before ++ comings ∷ []) (front ++ line ∷ []) (text ++ more) next []
    (append-nil (before ++ comings ∷ [])) (line_more s before comings [] now next front line text more prints replied)

-- ---- lines whose commands all came out as defined print what `reply` says

abbrev ArePlainLines : List (List Coming) → Type 0
ArePlainLines all = All (λ comings. comings ≡ []) all

-- without how the lines after come out
abbrev so_far : Option (List ℕ × Course) → Option (List ℕ × History)
so_far r = option_map (λ p. (p.0, p.1.past)) r

abbrev behind_in : Setting → List (List ℕ) → Option (List ℕ × Course) → Option (List ℕ × Course)
behind_in s behind r = option_and_then (λ p. printed_before (reply_in s) p.0 (carried_out (reply_in s) p.1 behind)) r

so_far_printed : (s : Setting) (text : List ℕ) (r : Option (List ℕ × Course))
    → printed_before (reply s) text (so_far r) ≡ so_far (printed_before (reply_in s) text r)
so_far_printed s text None = refl
so_far_printed s text (Some p) = refl

next_plain : (all : List (List Coming)) → ArePlainLines all → next_line all ≡ []
next_plain [] are = refl
next_plain (comings ∷ all) are = All-head (λ (comings : List Coming). comings ≡ []) comings all are

first_plain : (s : Setting) (behind : List (List ℕ))
    → ((c : Course) → ArePlainLines c.ahead → carried_out (reply s) c.past behind ≡ so_far (carried_out (reply_in s) c behind))
    → (ahead : List (List Coming)) → ArePlainLines ahead → (r : Option (List ℕ × History))
    → option_and_then (λ p. printed_before (reply s) p.0 (carried_out (reply s) p.1 behind)) r ≡ so_far (behind_in s behind (going_on ahead r))
first_plain s behind rest ahead are None = refl
first_plain s behind rest ahead are (Some p) =
    ap (printed_before (reply s) p.0) (rest (course p.1 ahead) are) ∙ so_far_printed s p.0 (carried_out (reply_in s) (course p.1 ahead) behind)

carried_plain : (s : Setting) (front : List (List ℕ)) (c : Course) → ArePlainLines c.ahead
    → carried_out (reply s) c.past front ≡ so_far (carried_out (reply_in s) c front)
carried_plain s [] c are = refl
carried_plain s (line ∷ behind) c are =
    first_plain s behind (carried_plain s behind) (drop 1 c.ahead) (All-drop (λ (comings : List Coming). comings ≡ []) 1 c.ahead are)
    (reply_by s [] c.past line)
    ∙ ap (λ (comings : List Coming). so_far (behind_in s behind (going_on (drop 1 c.ahead) (reply_by s comings c.past line))))
    (sym (next_plain c.ahead are))

prints_plain : (s : Setting) (all : List (List Coming)) → ArePlainLines all → (front : List (List ℕ)) (text : List ℕ)
    → Prints (reply_in s) (course [] all) front text → Prints (reply s) [] front text
prints_plain s all are front text prints = (prints.0.past, carried_plain s front (course [] all) are ∙ ap so_far prints.1)

stops_plain : (s : Setting) (all : List (List Coming)) → ArePlainLines all → (fault : ReplayFault) (input text : List ℕ)
    → StopsBy (reply_in s) fault (course [] all) input text → StopsBy (reply s) fault [] input text
unfolding StopsBy
stops_plain s all are (faults.Refused number) input text stop = (
  stop.0,
  stop.1,
  stop.2,
  prints_plain s all are stop.0 text stop.3,
  carried_plain s (stop.0 ++ stop.1 ∷ []) (course [] all) are ∙ ap so_far stop.4,
  stop.5,
)
stops_plain s all are faults.OutOfMemory input text stop = (stop.0, stop.1, prints_plain s all are stop.0 text stop.2)
stops_plain s all are faults.Output input text stop = (stop.0, stop.1, stop.2, prints_plain s all are stop.0 (text ++ stop.1) stop.3)
stops_plain s all are faults.Input input text stop = absurd stop

whole_plain : (s : Setting) (all : List (List Coming)) → ArePlainLines all → (r0 r1 w0 w1 : Option (List ℕ))
    → EndsWhole (reply_in s) (course [] all) r0 r1 w0 w1 → EndsWhole (reply s) [] r0 r1 w0 w1
whole_plain s all are None r1 w0 w1 ends = tt
whole_plain s all are (Some input) r1 w0 w1 ends = (ends.0, ends.1, prints_plain s all are (lines input) ends.0 ends.2)

line_plain : (s : Setting) (all : List (List Coming)) → ArePlainLines all → (fault : ReplayFault) (r0 r1 w0 w1 : Option (List ℕ))
    → EndsAtLine (reply_in s) (course [] all) r0 r1 w0 w1 fault → EndsAtLine (reply s) [] r0 r1 w0 w1 fault
line_plain s all are fault None r1 w0 w1 ends = tt
line_plain s all are fault (Some input) r1 w0 w1 ends = (ends.0, ends.1, stops_plain s all are fault input ends.0 ends.2)

input_plain : (s : Setting) (all : List (List Coming)) → ArePlainLines all → (r0 r1 w0 w1 : Option (List ℕ))
    → EndsUnread (reply_in s) (course [] all) r0 r1 w0 w1 → EndsUnread (reply s) [] r0 r1 w0 w1
input_plain s all are r0 r1 w0 w1 ends =
    (ends.0, ends.1, ends.2, ends.3, ends.4, ends.5, prints_plain s all are ends.1 ends.3 ends.6, ends.7)

fault_plain : (s : Setting) (all : List (List Coming)) → ArePlainLines all → (fault : ReplayFault) (r0 r1 w0 w1 : Option (List ℕ))
    → EndsByFault (reply_in s) (course [] all) r0 r1 w0 w1 fault → EndsByFault (reply s) [] r0 r1 w0 w1 fault
fault_plain s all are (faults.Refused number) r0 r1 w0 w1 ends = line_plain s all are (faults.Refused number) r0 r1 w0 w1 ends
fault_plain s all are faults.OutOfMemory r0 r1 w0 w1 ends = line_plain s all are faults.OutOfMemory r0 r1 w0 w1 ends
fault_plain s all are faults.Output r0 r1 w0 w1 ends = line_plain s all are faults.Output r0 r1 w0 w1 ends
fault_plain s all are faults.Input r0 r1 w0 w1 ends = input_plain s all are r0 r1 w0 w1 ends

-- of a target that is sound
pub ends_plain : (s : Setting) (machine : Machine) (r0 r1 w0 w1 : Option (List ℕ))
    → AsCame Sound machine (λ comings. EndsWhole (reply_in s) (course [] comings) r0 r1 w0 w1) → Ends r0 r1 w0 w1 s
ends_plain s machine r0 r1 w0 w1 ends = whole_plain s ends.0 ends.1 r0 r1 w0 w1 ends.2

pub ends_by_plain : (s : Setting) (machine : Machine) (fault : ReplayFault) (r0 r1 w0 w1 : Option (List ℕ))
    → AsCame Sound machine (λ comings. EndsByFault (reply_in s) (course [] comings) r0 r1 w0 w1 fault) → EndsBy r0 r1 w0 w1 s fault
ends_by_plain s machine fault r0 r1 w0 w1 ends = fault_plain s ends.0 ends.1 fault r0 r1 w0 w1 ends.2

pub unread_plain : (s : Setting) (machine : Machine) (r0 r1 w0 w1 : Option (List ℕ))
    → AsCame Sound machine (λ comings. EndsUnread (reply_in s) (course [] comings) r0 r1 w0 w1) → EndsUnread (reply s) [] r0 r1 w0 w1
unread_plain s machine r0 r1 w0 w1 ends = input_plain s ends.0 ends.1 r0 r1 w0 w1 ends.2
