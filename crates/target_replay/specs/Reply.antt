-- What a line of the input does, and what is printed after it. It is a function of how the target was made, of the
-- lines so far, and of how commands came out if stores failed.
use Rattle.std.specs.Prelude.{◌≡◌, ℕ, List, [], ◌∷◌, ◌++◌, drop, Bool, not, Option, None, Some, is_some, option_map, option_and_then, if◌then◌else◌, refl}
use Rattle.std.specs.Str.{is_utf8}
use Rattle.iscsi_session.specs.Comings.{Coming}
use Rattle.iscsi_target.specs.History.{Event, Open, Bytes, Gone, History, happening, plain}
use Rattle.iscsi_target.specs.Life.{out_of}
use Rattle.iscsi_target.specs.World.{Setting, World, present, world}
use Rattle.iscsi_target.specs.Machine.{Machine}
use Rattle.iscsi_target.specs.Stands.{Stands}
use Rattle.target_replay.specs.Line.{event_of}
use Rattle.target_replay.specs.Comings.{Kind, Suits}
use Rattle.target_replay.specs.Printed.{lines_of, all_sent, HasSentAll, unsent, printed_of, printed, after_printing}

-- a connection can open if it is not open, and can bring bytes and end if it is
abbrev pub is_allowed : World → Event → Bool
is_allowed w (Open c) = not (is_some (present c w))
is_allowed w (Bytes c piece) = is_some (present c w)
is_allowed w (Gone c) = is_some (present c w)

abbrev pub event_in : List ℕ → Option Event
event_in line = if is_utf8 line then event_of line else None

-- what is printed after one more event, and the history then; `before` is the World before it
abbrev pub printed_after : Setting → World → History → List ℕ × History
printed_after s before h = (printed (all_sent before) (world s h), after_printing s h)

-- if commands come out so
abbrev pub reply_to : Setting → List Coming → History → Event → Option (List ℕ × History)
reply_to s comings h event =
    if is_allowed (world s h) event then Some (printed_after s (world s h) (h ++ happening [] comings event ∷ [])) else None

-- a connection opens, and nothing is printed
first_open : (s : Setting) → reply_to s [] [] (Open 0) ≡ Some ([], plain (Open 0) ∷ [])
unfolding world present out_of printed printed_of lines_of unsent after_printing
first_open s = refl

-- a connection that is not open does not end
first_gone : (s : Setting) → reply_to s [] [] (Gone 0) ≡ None
unfolding world present
first_gone s = refl

-- What is printed after a line whose commands come out so, and the history then; none if the line is refused.
unfoldable pub reply_by : Setting → List Coming → History → List ℕ → Option (List ℕ × History)
reply_by s comings h line = option_and_then (reply_to s comings h) (event_in line)

-- if no store failed
abbrev pub reply : Setting → History → List ℕ → Option (List ℕ × History)
reply s h line = reply_by s [] h line

-- ---- lines one after the other

-- the history, and how the commands of the next lines come out, line by line; after these, as defined
pub record Course : Type 0 where
  pub past : History
  pub ahead : List (List Coming)

abbrev pub course : History → List (List Coming) → Course
course past ahead = record { past = past; ahead = ahead }

abbrev pub next_line : List (List Coming) → List Coming
next_line [] = []
next_line (comings ∷ more) = comings

abbrev pub going_on : List (List Coming) → Option (List ℕ × History) → Option (List ℕ × Course)
going_on ahead r = option_map (λ p. (p.0, course p.1 ahead)) r

-- `reply` of a line if stores may have failed
abbrev pub reply_in : Setting → Course → List ℕ → Option (List ℕ × Course)
reply_in s c line = going_on (drop 1 c.ahead) (reply_by s (next_line c.ahead) c.past line)

-- after the given lists it is `reply`
as_defined : (s : Setting) (h : History) (line : List ℕ) → reply_in s (course h []) line ≡ going_on [] (reply s h line)
as_defined s h line = refl

-- ---- what the code has done

-- it stands after one more event, and what waits on each connection is what the event brought
pub record HasActed (kind : Kind) (s : Setting) (h : History) (event : Event) (target : Machine) : Type 0 where
  pub sent : ℕ → ℕ
  pub comings : List Coming
  pub suits : Suits kind target comings
  pub stands : Stands s sent target (h ++ happening [] comings event ∷ [])
  pub waiting : (c : ℕ) → unsent sent (world s (h ++ happening [] comings event ∷ [])) c
      ≡ unsent (all_sent (world s h)) (world s (h ++ happening [] comings event ∷ [])) c

-- it has carried out a line that prints this text, and stands after it
pub record HasReplied (kind : Kind) (s : Setting) (h : History) (line text : List ℕ) (target : Machine) : Type 0 where
  pub comings : List Coming
  pub suits : Suits kind target comings
  pub now : History
  pub replied : reply_by s comings h line ≡ Some (text, now)
  pub stands : HasSentAll s now target
