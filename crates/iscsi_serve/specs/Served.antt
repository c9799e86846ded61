-- The effect of the running loop on a target, and what stays true of it.
use Rattle.std.specs.Prelude.{◌≡◌, ◌⊎◌, ◌<◌, ℕ, List, [], ◌∷◌, ◌++◌, length, map, true, Option, ⊤}
use Rattle.iscsi_target.specs.History.{Bytes, Happening, History, connection_limit}
use Rattle.iscsi_target.specs.Life.{Life, is_over, out_of}
use Rattle.iscsi_session.specs.Comings.{IsCalm}
use Rattle.iscsi_target.specs.World.{Setting, World, present, happen, begun_event, world}
use Rattle.iscsi_target.specs.Output.{out_now}
use Rattle.iscsi_target.specs.Machine.{Machine, IsSoundAt, link_at, new_machine}
use Rattle.iscsi_target.specs.Stands.{Stands, StandsAfter, IsStarved, are_reached}
use Rattle.iscsi_ports.specs.Log.{Entry, Written, written, written_on}
use Rattle.iscsi_serve.specs.Events.{events}

-- what was written on a connection is a front of the World's answers in its life
pub record IsFront (row : Written) (life : Life) : Type 0 where
  pub connection : row.connection ≡ life.connection
  pub closed : row.is_closed ≡ is_over life.phase
  pub front : (more : List ℕ) × (out_of life ≡ row.bytes ++ more)

-- the same for each life
abbrev pub AreFronts : List Written → List Life → Type 0
AreFronts [] [] = ⊤
AreFronts (row ∷ rows) (life ∷ lives) = IsFront row life × AreFronts rows lives
AreFronts _ _ = ⊥

-- The target stands where the World of this history does, and the history has the events of the log. Of each life's
-- answers a front was written. On an open connection what was written and what waits are together all of its answers.
pub record IsServed (s : Setting) (history : History) (log : List Entry) (target : Machine) : Type 0 where
  pub events : map (λ h. h.event) history ≡ events log
  pub stands : Stands s (λ c. length (written_on c log)) target history
  pub fronts : AreFronts (written log) (world s history).lives
  pub waits : (c : ℕ) → c < connection_limit → written_on c log ++ (link_at target c).waiting ≡ out_now (present c (world s history))

-- each further happening may come after those before it
abbrev pub MayFollow : (Setting → World → Happening → Type 0) → Setting → History → History → Type 0
MayFollow May s h [] = ⊤
MayFollow May s h (x ∷ more) = May s (world s h) x × MayFollow May s (h ++ x ∷ []) more

-- What may happen to a sound target: no allocation failed, or some did at points that were reached, first on one
-- connection; and all commands came out as defined.
abbrev pub MayHappen : Setting → World → Happening → Type 0
MayHappen s w x = ((x.marks ≡ []) ⊎ ((c : ℕ) × IsStarved s w x.event c x.marks)) × (x.comings ≡ [])

-- What may happen to every target, whatever its stores do, by how the commands came out. The points at which
-- allocations failed were reached in this order. All commands of a target whose units are sound in the end came out
-- as defined.
abbrev pub MayComeOut : Machine → Setting → World → Happening → Type 0
MayComeOut target s w x =
    (are_reached x.marks (happen s x.marks (begun_event x.comings w) x.event) ≡ true)
    × ((number : ℕ) → IsSoundAt number target → IsCalm number x.comings)

-- a piece was fed to a target, whatever its stores do: if the target stood before the piece, it stands after it, by
-- how the commands came out
abbrev pub IsFed : ℕ → List ℕ → Machine → Machine → Type 0
IsFed c piece target target_then =
    (s : Setting) (sent : ℕ → ℕ) (h : History) → Stands s sent target h
    → (starved : Option ℕ) × StandsAfter s sent h (Bytes c piece) starved target_then

-- a served target stays served, and May holds of what has happened meanwhile
abbrev pub Stays : (Setting → World → Happening → Type 0) → List Entry → List Entry → Machine → Machine → Type 0
Stays May log log_then target target_then =
    (s : Setting) (h : History) → IsServed s h log target
    → (more : History) × MayFollow May s h more × IsServed s (h ++ more) log_then target_then

-- for a sound target
abbrev pub StaysServed : List Entry → List Entry → Machine → Machine → Type 0
StaysServed = Stays MayHappen

-- for every target, by how its commands came out
abbrev pub ComesOutServed : List Entry → List Entry → Machine → Machine → Type 0
ComesOutServed log log_then target target_then = Stays (MayComeOut target_then) log log_then target target_then

-- the whole log of the ports is what has happened to a target since it was made
pub record HasBeenServed (May : Setting → World → Happening → Type 0) (s : Setting) (log : List Entry) (target : Machine) : Type 0 where
  pub history : History
  pub follows : MayFollow May s [] history
  pub served : IsServed s history log target

-- a new target is served by ports whose log names no connection
abbrev pub NewIsServed : Type 0
NewIsServed = (s : Setting) (log : List Entry) → events log ≡ [] → written log ≡ [] → IsServed s [] log (new_machine s.directory s.units)
