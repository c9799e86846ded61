-- A unit of which a write failed has failed ever after, whatever happens to the World.
use Rattle.std.proofs.Common.{◌≡◌, ℕ, zero, suc, List, [], ◌∷◌, map, Bool, true, false, Option, Some, None, refl, sym, ap, ◌∙◌, subst, arith}
use Rattle.std.specs.Prelude.{length, ◌==◌, slice_get, slice_set, slice_index_or, fold, if◌then◌else◌}
use Rattle.std.proofs.lemmas.List.Sums.{fold-append}
use Rattle.iscsi_pdu.specs.Frames.{Frame}
use Rattle.iscsi_pdu.specs.Header.{lun_field}
use Rattle.scsi_sense.specs.Done.{Outcome}
use Rattle.scsi_sense.specs.Nexus.{NexusName}
use Rattle.scsi_sense.specs.declared.condition.Attention.{Attention}
use Rattle.scsi_unit.specs.CameOut.{CameOut, way}
use Rattle.scsi_unit.specs.Identity.{is_for_target}
use Rattle.scsi_unit.specs.Lun.{lun_number}
use Rattle.scsi_unit.specs.State.{UnitState}
use Rattle.scsi_unit.specs.Unit.{joined_unit, left_unit, raised_unit, where_named, names_unit, touch_at, came_out_at}
use Rattle.scsi_unit.specs.Units.{UnitStates, unit_of, join, leave, raised_at, raised_for_all_at, raised_everywhere, performed_by, performed_at, come_out}
use Rattle.scsi_unit.specs.Failed.{StaysFailed}
use Rattle.scsi_unit.proofs.Failed.{commands_leave_failed}
use Rattle.iscsi_login.specs.Session.{older}
use Rattle.iscsi_login.specs.declared.session_params.SessionParams.{SessionParams}
use Rattle.iscsi_login.specs.declared.reply.Reply.{Reply}
use Rattle.iscsi_login.specs.declared.reply.Reply.TheVariants.{GoOn, Full, Refused}
use Rattle.iscsi_pdu.specs.declared.answer.Answer.TheVariants as answers
use Rattle.iscsi_pdu.specs.declared.task_management.TaskFunction.{TaskFunction}
use Rattle.iscsi_pdu.specs.declared.task_management.TaskFunction.TheVariants as functions
use Rattle.iscsi_session.specs.Requests.{Past}
use Rattle.iscsi_session.specs.AbortScope.{attention_of}
use Rattle.iscsi_session.specs.Commands.{carried_out}
use Rattle.iscsi_session.specs.Steps.{Step, Work, judge, act, ask, tell, finish, served, settled}
use Rattle.iscsi_session.proofs.Steps.{served_keeps, settled_keeps, served_extends, settled_extends}
use Rattle.iscsi_world.specs.History.{Event, Open, Bytes, Gone, History, Mark}
use Rattle.iscsi_world.specs.Laws.{failed_in, FailedUnitsStayFailed}
use Rattle.iscsi_world.specs.World.{Setting, World, present, changed, units_at, with_units, changed_units, left, close, answered, new_world, end, begins, end_older, replied, log_in, live, session_of, asked, fails, work_of, worked_on, worked, told, told_by, lost, losing, function_of, reset_by, reset, longer, brought, bring, happen, begun_event, happened, world}
use Rattle.iscsi_world.proofs.Walks.{Walk, EventWalk, IsAny, IsAnyFrame, any_arrivals, on-serve, on-brought}

-- ---- the units of a target

-- those that have failed have failed among the others
abbrev Keeps : UnitStates → UnitStates → Type 0
Keeps units others = (at : ℕ) → failed_in (slice_get units at) ≡ true → failed_in (slice_get others at) ≡ true

keeps_map : (f : UnitState → UnitState) → ((unit : UnitState) → StaysFailed unit (f unit)) → (units : UnitStates) → Keeps units (map f units)
keeps_map f each [] at failed = failed
keeps_map f each (unit ∷ units) zero failed = each unit failed
keeps_map f each (unit ∷ units) (suc at) failed = keeps_map f each units at failed

keeps_set : (units : UnitStates) (place : ℕ) (unit after : UnitState) → slice_get units place ≡ Some unit → StaysFailed unit after
    → Keeps units (slice_set units place after)
keeps_set [] place unit after is stays at failed = failed
keeps_set (x ∷ units) zero unit after is stays zero failed = stays (sym (ap failed_in is) ∙ failed)
keeps_set (x ∷ units) zero unit after is stays (suc at) failed = failed
keeps_set (x ∷ units) (suc place) unit after is stays zero failed = failed
keeps_set (x ∷ units) (suc place) unit after is stays (suc at) failed = keeps_set units place unit after is stays at failed

keeps_named : (lun : List ℕ) (f : UnitState → UnitState) → ((unit : UnitState) → StaysFailed unit (f unit)) → (units : UnitStates)
    → Keeps units (map (where_named lun f) units)
keeps_named lun f each units = keeps_map (where_named lun f) (λ unit. named (names_unit lun unit) unit (each unit)) units where
  named : (b : Bool) (unit : UnitState) → StaysFailed unit (f unit) → StaysFailed unit (if b then f unit else unit)
  named true unit stays failed = stays failed
  named false unit stays failed = failed

-- ---- commands

either_keeps : (b : Bool) (units : UnitStates) (some others : UnitStates × Outcome) → Keeps units some.0 → Keeps units others.0
    → Keeps units (if b then some else others).0
either_keeps true units some others one other = one
either_keeps false units some others one other = other

module _ (came : CameOut) (units : UnitStates) (nexus : NexusName) (cdb bytes : List ℕ) where
  keeps_performed_by : (place : ℕ) (o : Option UnitState) → slice_get units place ≡ o → Keeps units (performed_by came units nexus cdb bytes place o).0
  keeps_performed_by place None is = λ at failed. failed
  keeps_performed_by place (Some unit) is =
      either_keeps (is_for_target cdb) units _ _ (λ at failed. failed)
      (keeps_set units place unit (came_out_at came nexus cdb bytes unit).0 is
      (commands_leave_failed (way came (touch_at nexus cdb bytes unit)) nexus cdb bytes unit))

  keeps_performed_at : (o : Option ℕ) → Keeps units (performed_at came units nexus cdb bytes o).0
  keeps_performed_at None = λ at failed. failed
  keeps_performed_at (Some place) = keeps_performed_by place (slice_get units place) refl

  keeps_come_out : (lun : List ℕ) → Keeps units (come_out came units nexus lun cdb bytes).0
  unfolding come_out
  keeps_come_out lun = keeps_performed_at (unit_of units (lun_number lun))

keeps_carried_out : (came : CameOut) (units : UnitStates) (nexus : NexusName) (frame : Frame) (payload : List ℕ)
    → Keeps units (carried_out came units nexus frame payload).0
unfolding carried_out
keeps_carried_out came units nexus frame payload = grind (arith, keeps_come_out)

-- ---- a session at work

-- what has failed of these units has failed of those of its target
abbrev KeepsWork : UnitStates → Work → Type 0
KeepsWork units work = Keeps units work.units.states

keeps_served : (fails : Step → Bool) (place : ℕ) (frame : Frame) (work : Work) → KeepsWork work.units.states (served fails place frame work)
unfolding judge act ask tell
keeps_served fails place frame work =
    served_keeps (KeepsWork work.units.states) (λ step on w kept. kept) fails place frame work (λ w kept. kept) (λ w k rest is kept. kept)
    (λ w k rest is kept. kept) (λ w k rest is kept. kept) (λ at failed. failed)

keeps_settled : (fails : Step → Bool) (place : ℕ) (work : Work) → KeepsWork work.units.states (settled fails place work)
unfolding finish
keeps_settled fails place work =
    settled_keeps (KeepsWork work.units.states) (λ step on w kept. kept) fails place work
    (λ w k rest is kept at failed. keeps_carried_out _ w.units.states _ _ _ at (kept at failed)) (λ at failed. failed)

-- ---- attentions

raised_by : (function : TaskFunction) (lun : List ℕ) (units : UnitStates) → Keeps units (reset_by function lun units)
unfolding raised_for_all_at raised_everywhere
raised_by functions.LogicalUnitReset lun units = keeps_named lun _ (λ unit failed. failed) units
raised_by functions.TargetWarmReset lun units = keeps_map _ (λ unit failed. failed) units
raised_by functions.AbortTask lun units = λ at failed. failed
raised_by functions.AbortTaskSet lun units = λ at failed. failed
raised_by functions.ClearAca lun units = λ at failed. failed
raised_by functions.ClearTaskSet lun units = λ at failed. failed
raised_by functions.TargetColdReset lun units = λ at failed. failed
raised_by functions.TaskReassign lun units = λ at failed. failed
raised_by (functions.Other n) lun units = λ at failed. failed

keeps_cleared : (lun : List ℕ) (nexus : NexusName) (attention : Attention) (units : UnitStates) → Keeps units (raised_at nexus lun attention units)
unfolding raised_at
keeps_cleared lun nexus attention units = keeps_named lun (raised_unit nexus attention) (λ unit failed. failed) units

keeps_told : (o : Option Attention) (lun : List ℕ) (nexus : NexusName) (units : UnitStates) → Keeps units (told o lun nexus units)
keeps_told o lun nexus units = grind (arith, keeps_cleared)

keeps_losing : (header : List ℕ) (work : Work) → KeepsWork work.units.states (losing header work)
keeps_losing header work = by_count (length (lost header work.units.states work.past) == 0) where
  by_count : (b : Bool) → Keeps work.units.states (if b then work.units.states
      else told_by (function_of header) (lun_field header) work.past.params.nexus work.units.states)
  by_count true = λ at failed. failed
  by_count false = keeps_told (attention_of (function_of header)) (lun_field header) work.past.params.nexus work.units.states

-- ---- the units of all targets

abbrev KeepsAll : List UnitStates → List UnitStates → Type 0
KeepsAll all others = (target : ℕ) → Keeps (slice_index_or all target []) (slice_index_or others target [])

keeps_put : (all : List UnitStates) (target : ℕ) (units : UnitStates) → Keeps (slice_index_or all target []) units → KeepsAll all (slice_set all target units)
keeps_put [] target units kept other = λ at failed. failed
keeps_put (x ∷ all) zero units kept zero = kept
keeps_put (x ∷ all) zero units kept (suc other) = λ at failed. failed
keeps_put (x ∷ all) (suc target) units kept zero = λ at failed. failed
keeps_put (x ∷ all) (suc target) units kept (suc other) = keeps_put all target units kept other

keeps_with : (o : Option ℕ) (all : List UnitStates) (units : UnitStates) → Keeps (units_at o all) units → KeepsAll all (with_units o units all)
keeps_with None all units kept = λ target at failed. failed
keeps_with (Some target) all units kept = keeps_put all target units kept

keeps_changed : (f : UnitStates → UnitStates) (o : Option ℕ) (all : List UnitStates) → ((units : UnitStates) → Keeps units (f units))
    → KeepsAll all (changed_units f o all)
unfolding changed_units
keeps_changed f o all each = keeps_with o all (f (units_at o all)) (each (units_at o all))

keeps_left : (o : Option SessionParams) (all : List UnitStates) → KeepsAll all (left o all)
unfolding leave
keeps_left None all = λ target at failed. failed
keeps_left (Some session) all =
    keeps_changed (leave session.nexus) session.target all (keeps_map (left_unit session.nexus) (λ unit failed. failed))

-- ---- the World

abbrev KeepsWorld : World → World → Type 0
KeepsWorld w v = KeepsAll w.units v.units

kept : (w : World) → KeepsWorld w w
kept w target at failed = failed

kept_then : (w v u : World) → KeepsWorld w v → KeepsWorld v u → KeepsWorld w u
kept_then w v u first second target at failed = second target at (first target at failed)

keeps_close : (c : ℕ) (w : World) → KeepsWorld w (close c w)
unfolding close
keeps_close c w = keeps_left (session_of (present c w)) w.units

keeps_worked_on : (c : ℕ) (past : Past) (work : Work) (w : World) → work.past.params.target ≡ past.params.target
    → KeepsWork (units_at past.params.target w.units) work → KeepsWorld w (worked_on c work w)
unfolding changed
keeps_worked_on c past work w same keeps =
    keeps_with work.past.params.target w.units work.units.states
    (subst (λ (o : Option ℕ). Keeps (units_at o w.units) work.units.states) (sym same) keeps)

worked_by : (b : Bool) (c : ℕ) (work : Work) (w : World) → KeepsWorld w (worked_on c work w)
    → KeepsWorld w (if b then worked_on c work w else close c (worked_on c work w))
worked_by true c work w keeps = keeps
worked_by false c work w keeps = kept_then w (worked_on c work w) (close c (worked_on c work w)) keeps (keeps_close c (worked_on c work w))

keeps_worked : (c : ℕ) (past : Past) (work : Work) (w : World) → work.past.params ≡ past.params
    → KeepsWork (units_at past.params.target w.units) work → KeepsWorld w (worked c work w)
unfolding worked
keeps_worked c past work w same keeps =
    worked_by work.goes_on c work w (keeps_worked_on c past work w (ap (λ (p : SessionParams). p.target) same) keeps)

keeps_reset : (header : List ℕ) (target : ℕ) (w : World) → KeepsWorld w (reset header target w)
unfolding reset
keeps_reset header target w =
    keeps_changed (reset_by (function_of header) (lun_field header)) (Some target) w.units (raised_by (function_of header) (lun_field header))

keeps_walk : (marks : List Mark) → Walk marks KeepsWorld IsAnyFrame IsAny
keeps_walk marks = record {
  same = kept;
  then_ = kept_then;
  serves = λ c past frame place w at known.
      keeps_worked c past (served (fails marks c) place frame (work_of past w)) w
      (served_extends (fails marks c) place frame (work_of past w)).params (keeps_served (fails marks c) place frame (work_of past w));
  settles = λ c target past place w at same own.
      keeps_worked c past (settled (fails marks c) place (work_of past w)) w
      (settled_extends (fails marks c) place (work_of past w)).params (keeps_settled (fails marks c) place (work_of past w));
  loses = λ d target past header w at same own.
      keeps_worked_on d past (losing header (work_of past w)) w refl (keeps_losing header (work_of past w));
  resets = λ header target w own. keeps_reset header target w;
}

keeps_older : (o : Option ℕ) (w : World) → KeepsWorld w (end_older o w)
unfolding changed
keeps_older None w = kept w
keeps_older (Some d) w = kept w

keeps_replied : (reply : Reply) (c : ℕ) (w : World) → KeepsWorld w (replied reply c w)
unfolding changed join
keeps_replied (GoOn response) c w = kept w
keeps_replied (Refused response) c w = keeps_close c (changed (answered (answers.LoginResponse response)) c w)
keeps_replied (Full response session) c w =
    let answer = answers.LoginResponse response in
    kept_then w (begins session answer c w) (end_older (older session (live w)) (begins session answer c w))
    (keeps_changed (join session.nexus) session.target w.units (keeps_map (joined_unit session.nexus) (λ unit failed. failed)))
    (keeps_older (older session (live w)) (begins session answer c w))

keeps_log_in : (s : Setting) (c : ℕ) (request : Frame) (w : World) → KeepsWorld w (log_in s c request w)
unfolding log_in changed
keeps_log_in s c request w = keeps_replied _ c (changed (asked request) c w)

keeps_event : (s : Setting) (marks : List Mark) (c : ℕ) → EventWalk s marks c KeepsWorld IsAnyFrame
keeps_event s marks c = record {
  same = kept;
  then_ = kept_then;
  closes = keeps_close c;
  reaches = λ points w. kept w;
  logs_in = λ request life w at is. keeps_log_in s c request w;
  serves = λ place frame life session w at is known.
      on-serve (keeps_walk marks) c place session.params.target frame w known (λ target own. tt);
}

keeps_happen : (s : Setting) (marks : List Mark) (w : World) (event : Event) → KeepsWorld w (happen s marks w event)
unfolding bring end changed
keeps_happen s marks w (Open c) = kept w
keeps_happen s marks w (Bytes c piece) =
    on-brought (keeps_event s marks c) (changed (longer piece) c w) (brought (present c w) piece) (any_arrivals c (brought (present c w) piece))
keeps_happen s marks w (Gone c) = keeps_left (session_of (present c w)) w.units

keeps_history : (s : Setting) (w : World) (more : History) → KeepsWorld w (fold (happened s) w more)
keeps_history s w [] = kept w
keeps_history s w (x ∷ more) =
    kept_then w (happened s w x) (fold (happened s) (happened s w x) more)
    (keeps_happen s x.marks (begun_event x.comings w) x.event) (keeps_history s (happened s w x) more)

pub failed_units_stay_failed : FailedUnitsStayFailed
unfolding world
failed_units_stay_failed s h more target place failed =
    rw (fold-append (happened s) (new_world s) h more) (keeps_history s (world s h) more target place failed)
