-- How a replay ends, by the bytes that its reader had left and those that its writer holds, before and after, if they
-- are known.
use Rattle.std.specs.Prelude.{◌≡◌, ℕ, List, [], ◌∷◌, ◌++◌, Option, IfSome}
use Rattle.std.specs.List.{slice_split}
use Rattle.std.specs.Io.KnownBytes.{Appends, Consumes}
use Rattle.iscsi_target.specs.World.{Setting}
use Rattle.iscsi_target.specs.Machine.{Machine}
use Rattle.target_replay.specs.declared.fault.ReplayFault.{ReplayFault}
use Rattle.target_replay.specs.declared.fault.ReplayFault.TheVariants as faults
use Rattle.target_replay.specs.Comings.{Any, AsCame}
use Rattle.target_replay.specs.Lines.{is_newline, lines, Prints, StopsBy}
use Rattle.target_replay.specs.Reply.{reply, reply_in, course}

-- ---- `reply_of` is what a line prints and the state after it, from `start` on

module _ {S : Type 0} (reply_of : S → List ℕ → Option (List ℕ × S)) (start : S) (unread unread_then printed printed_then : Option (List ℕ)) where
  -- the whole input was carried out, and the output of its lines was printed
  abbrev pub EndsWhole : Type 0
  EndsWhole = IfSome unread (λ input. (text : List ℕ) × Appends printed printed_then text × Prints reply_of start (lines input) text)

  -- a line of the input stopped it
  abbrev pub EndsAtLine : ReplayFault → Type 0
  EndsAtLine fault = IfSome unread (λ input. (text : List ℕ) × Appends printed printed_then text × StopsBy reply_of fault start input text)

  -- the input failed: of the bytes that were read, the lines that a newline ends were carried out
  abbrev pub EndsUnread : Type 0
  EndsUnread = (read : List ℕ) × (front : List (List ℕ)) × (unended : List ℕ) × (text : List ℕ) × Consumes unread unread_then read
      × (slice_split is_newline read ≡ front ++ unended ∷ []) × Prints reply_of start front text × Appends printed printed_then text

  -- it ended by this fault
  abbrev pub EndsByFault : ReplayFault → Type 0
  EndsByFault (faults.Refused number) = EndsAtLine (faults.Refused number)
  EndsByFault faults.OutOfMemory = EndsAtLine faults.OutOfMemory
  EndsByFault faults.Output = EndsAtLine faults.Output
  EndsByFault faults.Input = EndsUnread

module _ (unread unread_then printed printed_then : Option (List ℕ)) where
  -- ---- of a target that is sound

  abbrev pub Ends : Setting → Type 0
  Ends s = EndsWhole (reply s) [] unread unread_then printed printed_then

  abbrev pub EndsBy : Setting → ReplayFault → Type 0
  EndsBy s fault = EndsByFault (reply s) [] unread unread_then printed printed_then fault

  -- ---- of every target, as it is left: the commands of each that is sound came out as defined, those of others in
  -- some way

  abbrev pub EndsAsCame : Setting → Machine → Type 0
  EndsAsCame s machine = AsCame Any machine (λ comings. EndsWhole (reply_in s) (course [] comings) unread unread_then printed printed_then)

  abbrev pub EndsAsCameBy : Setting → Machine → ReplayFault → Type 0
  EndsAsCameBy s machine fault =
      AsCame Any machine (λ comings. EndsByFault (reply_in s) (course [] comings) unread unread_then printed printed_then fault)
