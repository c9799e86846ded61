-- A target that is put through events, whatever its stores do.
use Rattle.std.proofs.Common.{ℕ, List, [], ◌∷◌, ◌++◌, map, None, refl, ap, ◌∙◌, subst}
use Rattle.std.proofs.lemmas.List.{map-append}
use Rattle.iscsi_session.specs.Comings.{Coming, IsCalm}
use Rattle.iscsi_world.specs.History.{Event, Open, Bytes, Gone, Happening, History, Mark, happening, plain, open_after}
use Rattle.iscsi_world.specs.Isolation.{AreUnmarked, AreCalm}
use Rattle.iscsi_world.specs.World.{Setting}
use Rattle.iscsi_world.specs.Machine.{Machine, IsSoundAt, ReflectsSoundness}
use Rattle.iscsi_world.specs.Stands.{Stands, StandsAfter, with_sent}
use Rattle.iscsi_world.specs.Runs.{MayCome, RowState, open_row, ended, Runs, RunsThrough}
use Rattle.iscsi_world.proofs.Running.{open_runs, bytes_runs, gone_runs}

unmarked_more : (history : History) (comings : List Coming) (event : Event) → AreUnmarked history → AreUnmarked (history ++ happening [] comings event ∷ [])
unmarked_more [] comings event are = (refl, tt)
unmarked_more (x ∷ history) comings event are = (are.0, unmarked_more history comings event are.1)

calm_more : (target : ℕ) (history : History) (comings : List Coming) (event : Event) → AreCalm target history → IsCalm target comings
    → AreCalm target (history ++ happening [] comings event ∷ [])
calm_more target [] comings event are calm = (calm, tt)
calm_more target (x ∷ history) comings event are calm = (are.0, calm_more target history comings event are.1 calm)

-- one more event
through_more : (s : Setting) (machine after : Machine) (rows later : List RowState) (before opened : List ℕ) (events : List Event) (event : Event)
    (comings : List Coming) → (r : RunsThrough s machine rows before events) → ReflectsSoundness machine after
    → ((target : ℕ) → IsSoundAt target after → IsCalm target comings) → Runs s after later opened (r.history ++ happening [] comings event ∷ [])
    → RunsThrough s after later opened (events ++ event ∷ [])
through_more s machine after rows later before opened events event comings r back calm runs = record {
  history = r.history ++ happening [] comings event ∷ [];
  of = map-append (λ (x : Happening). x.event) r.history (happening [] comings event ∷ []) ∙ ap (λ (l : List Event). l ++ event ∷ []) r.of;
  unmarked = unmarked_more r.history comings event r.unmarked;
  calm = λ target sound. calm_more target r.history comings event (r.calm target (back target sound)) (calm target sound);
  runs = runs;
}

pub open_through : (s : Setting) (machine after : Machine) (rows : List RowState) (before : List ℕ) (events : List Event) (c : ℕ)
    → RunsThrough s machine rows before events → MayCome machine (Open c) → ReflectsSoundness machine after
    → ((sent : ℕ → ℕ) (h : History) → Stands s sent machine h → Stands s (with_sent sent c 0) after (h ++ plain (Open c) ∷ []))
    → RunsThrough s after (rows ++ open_row c ∷ []) (open_after before (Open c)) (events ++ Open c ∷ [])
open_through s machine after rows before events c r may back stands =
    through_more s machine after rows (rows ++ open_row c ∷ []) before (open_after before (Open c)) events (Open c) [] r back (λ target sound. tt)
    (open_runs s machine after rows before r.history c r.runs may (stands (λ k. 0) r.history r.runs.stands))

pub bytes_through : (s : Setting) (machine after : Machine) (rows : List RowState) (before : List ℕ) (events : List Event) (c : ℕ) (piece : List ℕ)
    → RunsThrough s machine rows before events → ReflectsSoundness machine after
    → ((sent : ℕ → ℕ) (h : History) → Stands s sent machine h → StandsAfter s sent h (Bytes c piece) None after)
    → RunsThrough s after rows before (events ++ Bytes c piece ∷ [])
bytes_through s machine after rows before events c piece r back stands =
    let k = stands (λ d. 0) r.history r.runs.stands in
    let now = subst (λ (marks : List Mark). Stands s (λ d. 0) after (r.history ++ happening marks k.comings (Bytes c piece) ∷ [])) k.first k.stands in
    through_more s machine after rows rows before before events (Bytes c piece) k.comings r back k.calm
    (bytes_runs s machine after rows before r.history k.comings c piece r.runs now)

pub gone_through : (s : Setting) (machine after : Machine) (rows : List RowState) (before : List ℕ) (events : List Event) (c : ℕ)
    → RunsThrough s machine rows before events → ReflectsSoundness machine after
    → ((sent : ℕ → ℕ) (h : History) → Stands s sent machine h → Stands s (with_sent sent c 0) after (h ++ plain (Gone c) ∷ []))
    → RunsThrough s after (map (ended machine c) rows) (open_after before (Gone c)) (events ++ Gone c ∷ [])
gone_through s machine after rows before events c r back stands =
    through_more s machine after rows (map (ended machine c) rows) before (open_after before (Gone c)) events (Gone c) [] r back (λ target sound. tt)
    (gone_runs s machine after rows before r.history c r.runs (stands (λ k. 0) r.history r.runs.stands))

pub new_through : (s : Setting) (machine : Machine) → Runs s machine [] [] [] → RunsThrough s machine [] [] []
new_through s machine runs = record { history = []; of = refl; unmarked = tt; calm = λ target sound. tt; runs = runs }
