use Rattle.std.proofs.Common.{◌≡◌, ◌<◌, List, [], length, take, sym, ap, ◌∙◌, subst}
use Rattle.std.proofs.lemmas.List.{take_all}
use Rattle.iscsi_target.specs.Known.{known_in}
use Rattle.iscsi_world.specs.History.{open_after}
use Rattle.iscsi_target.specs.Events.{event_view, events_view, plain_history}
use Rattle.scsi_unit.specs.Units.{UnitStates}
use Rattle.iscsi_world.specs.Output.{outputs, media, media_in}
use Rattle.iscsi_world.specs.World.{Setting}
use Rattle.iscsi_world.specs.Stands.{Stands}
use Rattle.iscsi_target.specs.declared.event.Event.{Event}
use Rattle.iscsi_world.proofs.Choices.{and_true}
use Rattle.iscsi_target.proofs.Rows.{history_more, events_more, follows}
use Rattle.iscsi_world.proofs.Sound.{sure_as}
use Rattle.iscsi_world.proofs.Standing.{units_stand}
use Rattle.iscsi_world.proofs.Running.{new_runs, finished_outputs}
use Rattle.iscsi_world.proofs.Through.{new_through}
use Rattle.iscsi_world.proofs.Tracking.{comes, none_open}
use Rattle.iscsi_world.proofs.Isolation.{gives_its_own}
use Rattle.iscsi_target.proofs.target.Target.run.Goals as goal

pub loop-event-init : goal.loop-event-init
loop-event-init g c = (
  [],
  λ sound. rw c.new-rows.ensures.items (new_runs _ c.in_ok-target.target c.in_ok-target.ensures.stands),
  rw c.new-rows.ensures.items (new_through _ c.in_ok-target.target (new_runs _ c.in_ok-target.target c.in_ok-target.ensures.stands)),
  none_open c.in_ok-target.target _ _ c.in_ok-target.ensures.made,
  c.requires.well_formed,
  λ sure. sure_as _ c.in_ok-target.target (sym c.in_ok-target.ensures.made) sure,
)

pub take_event-requires : goal.take_event-requires
take_event-requires g c =
    let lt : c.loop-event.event-index < length c.args.events.now = c.loop-event-test.true in
    let i = c.loop-event.invariant in
    let both = and_true _ _ (sym (follows c.args.events.now c.loop-event.event-index c.event-item.result i.0 lt c.event-item.is) ∙ i.4) in
    comes c.loop-event.target i.0 (event_view c.event-item.result) i.3 both.0

pub loop-event-preserved : goal.loop-event-preserved
loop-event-preserved g c =
    let es = c.args.events.now in
    let at = c.loop-event.event-index in
    let e = c.event-item.result in
    let lt : at < length es = c.loop-event-test.true in
    let i = c.loop-event.invariant in
    let both = and_true _ _ (sym (follows es at e i.0 lt c.event-item.is) ∙ i.4) in
    let r = c.in_ok-take_event.ensures.runs _ i.0 (plain_history (take at es)) i.1 in (
      open_after i.0 (event_view e),
      rw (history_more es at e lt c.event-item.is) r,
      rw (events_more es at e lt c.event-item.is) (c.in_ok-take_event.ensures.through _ i.0 (events_view (take at es)) i.2),
      c.in_ok-take_event.ensures.«open» i.0 i.3,
      both.1,
      λ sure. c.in_ok-take_event.ensures.sure (i.5 sure),
    )

pub returns-clause-sure : goal.returns-clause-sure
returns-clause-sure g c = c.loop-event.invariant.5

pub returns-clause-stands : goal.returns-clause-stands
returns-clause-stands g c = λ sound.
    (let es = c.args.events.now in
    let all : take c.loop-event.event-index es ≡ es = take_all c.loop-event.event-index es c.loop-event-test.false in
    let P : List Event → Type 0 = λ l. Stands (record { directory = known_in c.args.config; units = c.args.units.items }) (λ k. 0)
    c.loop-event.target (plain_history l) in
    subst P all (c.loop-event.invariant.1 sound).stands)

pub returns-clause-outputs : goal.returns-clause-outputs
returns-clause-outputs g c = λ sound.
    (let es = c.args.events.now in
    let i = c.loop-event.invariant in
    let all : take c.loop-event.event-index es ≡ es = take_all c.loop-event.event-index es c.loop-event-test.false in
    c.in_ok-outputs.ensures ∙ finished_outputs _ c.loop-event.target _ i.0 _ (i.1 sound)
    ∙ ap (λ (l : List Event). outputs (record { directory = known_in c.args.config; units = c.args.units.items }) (plain_history l)) all)

pub returns-clause-media : goal.returns-clause-media
returns-clause-media g c = λ sound number.
    (let es = c.args.events.now in
    let all : take c.loop-event.event-index es ≡ es = take_all c.loop-event.event-index es c.loop-event-test.false in
    let P : List Event → Type 0 = λ l. media_in c.loop-event.target.units number
    ≡ media (record { directory = known_in c.args.config; units = c.args.units.items }) (plain_history l) number in
    subst P all (ap (λ (units : List UnitStates). media_in units number) (units_stand _ (λ k. 0) _ _ (c.loop-event.invariant.1 sound).stands)))

pub returns-clause-isolated : goal.returns-clause-isolated
returns-clause-isolated g c = λ number sound.
    (let es = c.args.events.now in
    let setting : Setting = record { directory = known_in c.args.config; units = c.args.units.items } in
    let i = c.loop-event.invariant in
    let all : take c.loop-event.event-index es ≡ es = take_all c.loop-event.event-index es c.loop-event-test.false in
    let r = i.2 in
    gives_its_own setting number (events_view es) _ c.loop-event.target r.history (r.of ∙ ap events_view all) c.requires.well_formed r.unmarked
    (r.calm number sound) r.runs.stands
    (c.in_ok-outputs.ensures ∙ finished_outputs setting c.loop-event.target _ i.0 r.history r.runs)
    (ap (λ (units : List UnitStates). media_in units number) (units_stand setting (λ k. 0) _ _ r.runs.stands)))
