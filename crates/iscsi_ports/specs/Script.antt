-- What the calls of a connection tell that follows a script.
use Rattle.std.specs.Prelude.{◌≡◌, ◌≢◌, ℕ, ◌+◌, List, [], ◌∷◌, drop, length, min, Option, Some, None, ◌&&◌, ◌==◌, nat_lt, slice_index_or, if◌then◌else◌}
use Rattle.iscsi_ports.specs.Results.{count_of}
use Rattle.iscsi_ports.specs.declared.results.IoResult.{IoResult}
use Rattle.iscsi_ports.specs.declared.results.IoResult.TheVariants as told
use Rattle.iscsi_ports.specs.declared.script.Step.{Step}
use Rattle.iscsi_ports.specs.declared.script.Step.TheVariants as steps
use Rattle.iscsi_ports.specs.declared.script.Course.{Course}
use Rattle.iscsi_ports.specs.declared.script.Script.{Script}

-- by a step, of a call that can move this number of bytes
abbrev pub step_told : Step → ℕ → IoResult
step_told (steps.Moves count) most = told.Bytes (min count most)
step_told steps.End most = told.End
step_told steps.Fault most = told.Fault

-- by a course, of its n-th call from 0
abbrev pub told_at : Course → ℕ → ℕ → IoResult
told_at course n most =
    if nat_lt n course.first then told.Bytes most else step_told (if n == course.first then course.next else course.later) most

-- each call of the one is the call of the other that comes after it
abbrev pub IsBehind : Course → Course → Type 0
IsBehind course course_then = (n most : ℕ) → told_at course_then n most ≡ told_at course (n + 1) most

-- a read with this room tells the end if nothing is left, if there is one, and else goes by its course
abbrev pub read_told : Script → ℕ → IoResult
read_told script room =
    if script.ends && length script.input.items == 0 then told.End
    else told_at script.reads 0 (min (length script.input.items) room)

abbrev pub write_told : Script → ℕ → IoResult
write_told script offered = told_at script.writes 0 offered

-- a read that told this has taken what it gave from the front of the input
pub record HasRead (script script_then : Script) (told : IoResult) : Type 0 where
  pub input : script_then.input.items ≡ drop (count_of told) script.input.items
  pub ends : script_then.ends ≡ script.ends
  pub reads : IsBehind script.reads script_then.reads
  pub writes : script_then.writes ≡ script.writes

-- a write leaves the input as it is
pub record HasWritten (script script_then : Script) : Type 0 where
  pub input : script_then.input.items ≡ script.input.items
  pub ends : script_then.ends ≡ script.ends
  pub reads : script_then.reads ≡ script.reads
  pub writes : IsBehind script.writes script_then.writes

-- ---- of the places of connections, each with its script where there is one

abbrev pub place_at : ℕ → List (Option Script) → Option Script
place_at c places = slice_index_or places c None

-- a fault where there is no connection
abbrev pub read_told_at : Option Script → ℕ → IoResult
read_told_at None room = told.Fault
read_told_at (Some script) room = read_told script room

abbrev pub write_told_at : Option Script → ℕ → IoResult
write_told_at None offered = told.Fault
write_told_at (Some script) offered = write_told script offered

abbrev pub input_at : Option Script → List ℕ
input_at None = []
input_at (Some script) = script.input.items

-- the script goes on by R, if there is one
abbrev pub GoesOn : (Script → Script → Type 0) → Option Script → Option Script → Type 0
GoesOn R None place = place ≡ None
GoesOn R (Some script) None = ⊥
GoesOn R (Some script) (Some script_then) = R script script_then

-- this place has the script that waited first
abbrev pub HasCome : Option Script → List Script → List Script → Type 0
HasCome None callers callers_then = ⊥
HasCome (Some script) callers callers_then = callers ≡ script ∷ callers_then

-- every other place is as it was
abbrev pub KeepsOthers : ℕ → List (Option Script) → List (Option Script) → Type 0
KeepsOthers c places places_then = (d : ℕ) → d ≢ c → place_at d places_then ≡ place_at d places
