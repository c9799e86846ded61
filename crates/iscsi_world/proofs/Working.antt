-- What the steps of a session make of the code and of the World.
use Rattle.std.proofs.Common.{◌≡◌, ◌≢◌, ℕ, ◌<◌, List, [], ◌++◌, Bool, true, false, cond, Option, Some, refl, sym, ap, ◌∙◌, append_assoc, subst, arith}
use Rattle.std.specs.Prelude.{flat_map}
use Rattle.iscsi_pdu.specs.Answer.{spelling}
use Rattle.iscsi_pdu.specs.declared.answer.Answer.{Answer}
use Rattle.scsi_unit.specs.Units.{UnitStates}
use Rattle.iscsi_session.specs.Comings.{Coming, lend}
use Rattle.iscsi_session.specs.Requests.{Past}
use Rattle.iscsi_session.specs.State.{SessionState, remembered}
use Rattle.iscsi_session.specs.Steps.{Work}
use Rattle.iscsi_session.specs.Runs.{output, Leaves}
use Rattle.iscsi_world.specs.History.{connection_limit}
use Rattle.iscsi_world.specs.Life.{Life, Phase, reads, FullFeature, past_in, answers_of}
use Rattle.iscsi_world.specs.World.{Setting, World, present, changed, past_of, work_of, with_past, worked_on, worked, with_units}
use Rattle.iscsi_world.specs.Machine.{LinkState, Machine, link_at, with_link, closed}
use Rattle.iscsi_world.specs.Stands.{link_of}
use Rattle.iscsi_world.specs.Serving.{Serves}
use Rattle.iscsi_world.specs.declared.phase.Phase.TheVariants as phases
use Rattle.iscsi_world.proofs.Lives.{present-changed_other, present-lives, worked_placed, present-placed}
use Rattle.iscsi_world.proofs.Linked.{link_is, units_with, out-more, closes, life_link, serves_life, half_there}

-- ---- a connection in full feature phase

-- its present life has a session with this past
pub record IsAtWork (w : World) (c : ℕ) (past : Past) : Type 0 where
  pub life : Life
  pub at : present c w ≡ Some life
  pub phase : life.phase ≡ FullFeature past

at_work_of : (w : World) (c : ℕ) (o : Option Life) → present c w ≡ o → (s : Setting) (sent : ℕ) (half : List ℕ) (state : SessionState)
    → (link_of s.directory sent half o).phase ≡ phases.FullFeature state
    → (past : Past) × IsAtWork w c past × (state ≡ remembered past)
at_work_of w c o at s sent half state e = grind arith

-- where the code has a session, the World has one, which the code remembers
pub at_work : (s : Setting) (sent : ℕ → ℕ) (half : ℕ → List ℕ) (w : World) (machine : Machine) (c : ℕ) (state : SessionState) → c < connection_limit
    → Serves s sent half w machine
    → (link_at machine c).phase ≡ phases.FullFeature state → (past : Past) × IsAtWork w c past × (state ≡ remembered past)
at_work s sent half w machine c state lt h e =
    at_work_of w c (present c w) refl s (sent c) (half c) state (sym (ap (λ (l : LinkState). l.phase) (link_is s sent half w machine c lt h)) ∙ e)

pub past_at : (w : World) (c : ℕ) (past : Past) → IsAtWork w c past → past_of (present c w) ≡ Some past
past_at w c past a = ap past_of a.at ∙ ap past_in a.phase

-- ---- what the steps leave

pub present_worked : (w : World) (c : ℕ) (past : Past) (work : Work) → (a : IsAtWork w c past) → present c (worked_on c work w) ≡ Some (with_past work.past a.life)
present_worked w c past work a =
    present-lives c (worked_on c work w) (changed (with_past work.past) c w) refl
    ∙ present-placed (with_past work.past) (worked_placed work.past) c w a.life a.at

pub present_worked_other : (w : World) (c d : ℕ) (work : Work) → d ≢ c → present d (worked_on c work w) ≡ present d w
present_worked_other w c d work differ =
    present-lives d (worked_on c work w) (changed (with_past work.past) c w) refl ∙ present-changed_other (with_past work.past) c d w (λ life. refl) differ

pub answers_grow : (life : Life) (phase : Phase) (past then_ : Past) (more : List Answer) → life.phase ≡ FullFeature past
    → then_.answers ≡ past.answers ++ more → answers_of (with_past then_ life) ≡ answers_of life ++ more
answers_grow life phase past then_ more e grow = grind (arith, append_assoc)

-- of the link of a session's connection
abbrev pub session_link : SessionState → List ℕ → LinkState → LinkState
session_link state waiting link = record link { phase = phases.FullFeature state; waiting = waiting }

-- the session goes on
works : (s : Setting) (sent : ℕ → ℕ) (half : ℕ → List ℕ) (w : World) (machine : Machine) (c : ℕ) (past : Past) (work : Work) (state : SessionState)
    (waiting : List ℕ) (orders : List (List ℕ)) (after : UnitStates) (comings : List Coming) → c < connection_limit
    → Serves s sent half w machine → IsAtWork w c past
    → Leaves (work_of past w) work state (output (link_at machine c).waiting []) (output waiting orders) (lend after comings)
    → Serves s sent half (worked_on c work w) (record (with_link machine c (session_link state waiting (link_at machine c)))
    { units = with_units past.params.target after machine.units })
works s sent half w machine c past work state waiting orders after comings lt h a l =
    let life = a.life in
    let then_ = with_past work.past life in
    let old = link_at machine c in
    let all = with_units past.params.target after machine.units in
    let same_units : machine.units ≡ w.units = ap (λ (m : Machine). m.units) h.is ∙ units_with s sent half w in
    let units : with_units work.past.params.target work.units.states w.units ≡ all = grind arith in
    let link : life_link s.directory (half c) then_ (old.waiting ++ flat_map spelling l.more) ≡ session_link state waiting old =
    rw (l.remembered, l.spelled, half_there s sent half w machine c life lt h a.at (ap reads a.phase)) refl in
    subst (λ (x : LinkState). Serves s sent half (worked_on c work w) (record (with_link machine c x) { units = all })) link
    (serves_life s sent half w (worked_on c work w) machine c all life then_ (flat_map spelling l.more) lt h a.at (present_worked w c past work a)
    (λ d differ. present_worked_other w c d work differ)
    (out-more life then_ l.more (answers_grow life life.phase past work.past l.more a.phase l.answers)) l.lawful units)

-- what is left of a session that may go on, or not
abbrev pub left_by : Bool → ℕ → Machine → Machine
left_by goes_on c machine = cond goes_on machine (closed machine c)

left_with : (b : Bool) (s : Setting) (sent : ℕ → ℕ) (half : ℕ → List ℕ) (w : World) (machine : Machine) (c : ℕ) (past : Past) (work : Work)
    → c < connection_limit → work.goes_on ≡ b
    → (a : IsAtWork w c past) → Serves s sent half (worked_on c work w) machine → Serves s sent half (worked c work w) (left_by b c machine)
unfolding worked
left_with true s sent half w machine c past work lt e a h = rw e h
left_with false s sent half w machine c past work lt e a h = rw e (closes s sent half (worked_on c work w) machine c (with_past work.past a.life) lt
    h (present_worked w c past work a))

pub serves_worked : (s : Setting) (sent : ℕ → ℕ) (half : ℕ → List ℕ) (w : World) (machine : Machine) (c : ℕ) (past : Past) (work : Work)
    (state : SessionState) (waiting : List ℕ) (orders : List (List ℕ)) (after : UnitStates) (comings : List Coming) (goes_on : Bool)
    → c < connection_limit → Serves s sent half w machine → IsAtWork w c past
    → Leaves (work_of past w) work state (output (link_at machine c).waiting []) (output waiting orders) (lend after comings) → work.goes_on ≡ goes_on
    → Serves s sent half (worked c work w) (left_by goes_on c (record (with_link machine c (session_link state waiting (link_at machine c)))
    { units = with_units past.params.target after machine.units }))
serves_worked s sent half w machine c past work state waiting orders after comings goes_on lt h a l e =
    left_with goes_on s sent half w _ c past work lt e a (works s sent half w machine c past work state waiting orders after comings lt h a l)
