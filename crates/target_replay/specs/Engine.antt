-- A replay in progress: what it has taken of the input, and how a line stops it.
use Rattle.std.specs.Prelude.{◌≡◌, ℕ, ◌+◌, ◌==◌, All, false, List, [], ◌++◌, length, Option, None, Some}
use Rattle.std.specs.List.{slice_split}
use Rattle.std.specs.Io.KnownBytes.{Appends, Keeps}
use Rattle.iscsi_session.specs.Comings.{Coming}
use Rattle.iscsi_target.specs.History.{History}
use Rattle.iscsi_target.specs.World.{Setting}
use Rattle.iscsi_target.specs.Machine.{Machine}
use Rattle.target_replay.specs.declared.fault.ReplayFault.{ReplayFault}
use Rattle.target_replay.specs.declared.fault.ReplayFault.TheVariants as faults
use Rattle.target_replay.specs.Comings.{Kind, Suits, AsCame}
use Rattle.target_replay.specs.Lines.{is_newline, lines, carried_out, Prints, StopsBy}
use Rattle.target_replay.specs.Printed.{HasSentAll}
use Rattle.target_replay.specs.Reply.{reply_by, reply_in, course}

-- own: the progress of a replay: its target, the line that has not ended yet, and the number of the line before it
pub record Progress : Type 0 where
  pub target : Machine
  pub pending : List ℕ
  pub number : ℕ
  pub one_line : All (λ byte. (byte == 10) ≡ false) pending

-- these bytes of the input were taken. The lines that a newline ends were carried out and printed this text, and the
-- line after them is pending
pub record HasTaken (kind : Kind) (s : Setting) (bytes : List ℕ) (progress : Progress) (text : List ℕ) : Type 0 where
  pub ended : List (List ℕ)
  pub cut : (rest : List ℕ) → slice_split is_newline (bytes ++ rest) ≡ ended ++ slice_split is_newline (progress.pending ++ rest)
  pub number : progress.number ≡ length ended
  -- how the commands of these lines came out
  pub comings : List (List Coming)
  pub suits : All (Suits kind progress.target) comings
  -- what has happened
  pub now : History
  -- in whatever way the commands of the lines after them come out
  pub prints : (ahead : List (List Coming)) → carried_out (reply_in s) (course [] (comings ++ ahead)) ended ≡ Some (text, course now ahead)
  pub stands : HasSentAll s now progress.target

-- bytes that come next advance the engine, and print what their lines print
abbrev pub Takes : Kind → Progress → List ℕ → Progress → Option (List ℕ) → Option (List ℕ) → Type 0
Takes kind old piece new w0 w1 = (s : Setting) (bytes before : List ℕ) → HasTaken kind s bytes old before
    → (text : List ℕ) × Appends w0 w1 text × HasTaken kind s (bytes ++ piece) new (before ++ text)

-- within the bytes that come next a line ends the replay, whatever comes after them
abbrev pub Stops : Kind → Progress → List ℕ → Machine → Option (List ℕ) → Option (List ℕ) → ReplayFault → Type 0
Stops kind old piece target w0 w1 fault = (s : Setting) (bytes before : List ℕ) → HasTaken kind s bytes old before
    → (text : List ℕ) × Appends w0 w1 text × AsCame kind target
    (λ comings. (rest : List ℕ) → StopsBy (reply_in s) fault (course [] comings) (bytes ++ (piece ++ rest)) (before ++ text))

-- the input ends here, and all its lines were carried out
abbrev pub Finishes : Kind → Progress → Machine → Option (List ℕ) → Option (List ℕ) → Type 0
Finishes kind old target w0 w1 = (s : Setting) (bytes before : List ℕ) → HasTaken kind s bytes old before
    → (text : List ℕ) × Appends w0 w1 text × AsCame kind target (λ comings. Prints (reply_in s) (course [] comings) (lines bytes) (before ++ text))

-- the input ends here, and its last line ends the replay
abbrev pub StopsLast : Kind → Progress → Machine → Option (List ℕ) → Option (List ℕ) → ReplayFault → Type 0
StopsLast kind old target w0 w1 fault = (s : Setting) (bytes before : List ℕ) → HasTaken kind s bytes old before
    → (text : List ℕ) × Appends w0 w1 text × AsCame kind target (λ comings. StopsBy (reply_in s) fault (course [] comings) bytes (before ++ text))

-- the pending line was carried out: its output was printed, and the target stands after it
pub record LineEnds (kind : Kind) (s : Setting) (h : History) (line : List ℕ) (target : Machine) (w0 w1 : Option (List ℕ)) : Type 0 where
  pub text : List ℕ
  pub comings : List Coming
  pub suits : Suits kind target comings
  pub now : History
  pub replied : reply_by s comings h line ≡ Some (text, now)
  pub stands : HasSentAll s now target
  pub printed : Appends w0 w1 text

-- a write of the output of the pending line failed
pub record LineUnprinted (kind : Kind) (s : Setting) (h : History) (line : List ℕ) (target : Machine) (w0 w1 : Option (List ℕ)) : Type 0 where
  pub part : List ℕ
  pub unprinted : List ℕ
  pub comings : List Coming
  pub suits : Suits kind target comings
  pub now : History
  pub replied : reply_by s comings h line ≡ Some (part ++ unprinted, now)
  pub printed : Appends w0 w1 part

-- the pending line ends the replay
abbrev pub LineFails : Kind → Setting → History → Progress → Machine → Option (List ℕ) → Option (List ℕ) → ReplayFault → Type 0
LineFails kind s h old target w0 w1 (faults.Refused number) =
    ((comings : List Coming) → reply_by s comings h old.pending ≡ None) × (number ≡ old.number + 1) × Keeps w0 w1
LineFails kind s h old target w0 w1 faults.OutOfMemory = Keeps w0 w1
LineFails kind s h old target w0 w1 faults.Output = LineUnprinted kind s h old.pending target w0 w1
LineFails kind s h old target w0 w1 faults.Input = ⊥
