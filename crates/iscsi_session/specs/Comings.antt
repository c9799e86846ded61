-- How the commands of a target come out, also if its stores fail.
use Rattle.std.specs.Prelude.{◌≡◌, ℕ, List, [], ◌∷◌, length, drop, Bool, true, false, ◌==◌, Option, Some, None, if◌then◌else◌, ⊤}
use Rattle.scsi_unit.specs.CameOut.{CameOut, AsDefined}
use Rattle.scsi_unit.specs.Units.{UnitStates, AreSound}

-- how a command of a session with this target came out
pub record Coming : Type 0 where
  pub target : Option ℕ
  pub came : CameOut

-- A target's units, and how the next commands come out, one after the other. A command after these, and one of another
-- target than is named, comes out as its definition says.
pub record TargetUnits : Type 0 where
  pub states : UnitStates
  pub comings : List Coming

abbrev pub lend : UnitStates → List Coming → TargetUnits
lend units comings = record { states = units; comings = comings }

abbrev pub is_for : Option ℕ → Option ℕ → Bool
is_for (Some target) (Some other) = target == other
is_for (Some target) None = false
is_for None (Some other) = false
is_for None None = true

-- how the next command of a session with this target comes out
abbrev pub next_coming : Option ℕ → List Coming → CameOut
next_coming target [] = AsDefined
next_coming target (coming ∷ more) = if is_for coming.target target then coming.came else AsDefined

-- the next commands come out as in this list
abbrev pub AreAhead : List Coming → List Coming → Type 0
AreAhead [] comings = ⊤
AreAhead (coming ∷ more) comings = (next_coming coming.target comings ≡ coming.came) × AreAhead more (drop 1 comings)

-- no store failed in any of these
abbrev pub ArePlain : List Coming → Type 0
ArePlain [] = ⊤
ArePlain (coming ∷ more) = (coming.came ≡ AsDefined) × ArePlain more

-- no store failed in any of these that is of a session with this target
abbrev pub IsCalm : ℕ → List Coming → Type 0
IsCalm target [] = ⊤
IsCalm target (coming ∷ more) = (is_for coming.target (Some target) ≡ true → coming.came ≡ AsDefined) × IsCalm target more

-- all of these are of sessions with this target
abbrev pub AreOf : Option ℕ → List Coming → Type 0
AreOf target [] = ⊤
AreOf target (coming ∷ more) = (coming.target ≡ target) × AreOf target more

-- What a call that does commands of a session with this target leads to, by how they came out, however others come out
-- after them. All came out as defined if the units are sound after it.
pub record CameAs (target : Option ℕ) (Leads : TargetUnits → TargetUnits → Type 0) (units after : UnitStates) : Type 0 where
  pub came : List Coming
  pub own : AreOf target came
  pub leads : (comings : List Coming) → AreAhead came comings → Leads (lend units comings) (lend after (drop (length came) comings))
  pub plain : AreSound after → ArePlain came
