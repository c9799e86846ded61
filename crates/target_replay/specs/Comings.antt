-- How the commands that the lines bring come out, even if stores fail.
use Rattle.std.specs.Prelude.{◌≡◌, ℕ, List, [], All, ⊤}
use Rattle.iscsi_session.specs.Comings.{Coming, IsCalm}
use Rattle.iscsi_target.specs.Machine.{Machine, IsSound, IsSoundAt}

-- the targets that a statement is about: any, or those all of whose units are sound
pub data Kind : Type 0 where
  Any : Kind
  Sound : Kind

abbrev pub IsOf : Kind → Machine → Type 0
IsOf Any machine = ⊤
IsOf Sound machine = IsSound machine

-- the commands of each target that is sound came out as defined
abbrev pub AreCalmIn : Machine → List Coming → Type 0
AreCalmIn machine comings = (target : ℕ) → IsSoundAt target machine → IsCalm target comings

-- the commands of a line that leaves such a target may have come out so: all as defined if all units are sound
abbrev pub Suits : Kind → Machine → List Coming → Type 0
Suits Any machine comings = AreCalmIn machine comings
Suits Sound machine comings = comings ≡ []

-- this holds for some ways in which the commands of the lines may have come out, one way for each line
abbrev pub AsCame : Kind → Machine → (List (List Coming) → Type 0) → Type 0
AsCame kind machine P = (comings : List (List Coming)) × All (Suits kind machine) comings × P comings
