use Rattle.std.proofs.Common.{◌≡◌, List, [], map, refl, sym, ap, subst, ◌∙◌, rules, map-id}
use Rattle.std.proofs.lemmas.Iterator.Adapters.{YieldsList-from_vec}
use Rattle.std.proofs.lemmas.Iterator.Consumers.{YieldsList-end}
use Rattle.std.proofs.lemmas.Result.{IfOk-from_err}
use Rattle.std.specs.Prelude.{Contains, string_bytes, Result, Ok, Err, IfErr, IsErrAnd}
use Rattle.std.specs.List.{list_all}
use Rattle.std.specs.Vec.Iter.{into_iter_items}
use Rattle.scsi_unit.specs.Units.{UnitStates}
use Rattle.target_config.specs.Configuration.{TargetEntry, names_of, target_view, targets_view, configuration_view}
use Rattle.target_config.specs.Limits.{target_keeps}
use Rattle.target_units.specs.Opened.{Held, IsTargetOf, AreUnitsOf}
use Rattle.target_units.specs.Refusal.{Refusal}
use Rattle.target_units.specs.Unopened.{IsFaultIn, IsUnopened}
use Rattle.target_units.specs.declared.fault.OpenFault.{OpenFault}
use Rattle.target_units.specs.declared.fault.OpenFault.TheVariants as faults
use Rattle.target_units.proofs.OpenedUnits.{each_view_more, all_kept, targets_next, target_kept, target_now, names_next}
use Rattle.target_units.proofs.opening.open.Goals as goal

-- a call that fails since an allocation failed
out_of_memory : {T : Type 0} (held : Held) (targets : List TargetEntry) (refused : Refusal) (result : Result T OpenFault)
    → IsErrAnd result (λ why. why ≡ faults.Memory) → IfErr result (IsUnopened held targets refused)
out_of_memory held targets refused (Ok value) why = tt
out_of_memory held targets refused (Err seen) why = subst (IsUnopened held targets refused) (sym why) tt

pub loop-target-init : goal.loop-target-init
loop-target-init g c =
    let same : into_iter_items c.into_iter-target-iterator.result ≡ c.args.configuration.targets.items =
    c.into_iter-target-iterator.ensures.into_iter_gives.0 in (
      tt,
      tt,
      ap (λ targets. list_all target_keeps (targets_view targets)) same ∙ all_kept (configuration_view c.args.configuration) c.requires,
      λ entry found. subst (λ targets. Contains (targets_view targets) entry) same found,
      ap (map string_bytes) c.new-names.ensures.items,
      subst (λ (units : List UnitStates). AreUnitsOf g.S.Start.held [] units) (sym c.new-units.ensures.items) tt,
    )

pub open_units-requires : goal.open_units-requires
open_units-requires g c = target_kept _ _ c.in-Some.target c.in-Some.ensures.steps.0 c.loop-target.invariant.2

pub loop-target-preserved : goal.loop-target-preserved
loop-target-preserved g c =
    let next = targets_next _ _ c.in-Some.target (targets_view c.args.configuration.targets.items) c.in-Some.ensures.steps.0
    c.loop-target.invariant.2 c.loop-target.invariant.3 in (
      tt,
      tt,
      next.0,
      next.1,
      names_next c.loop-target.yielded c.in-Some.target c.loop-target.names.items c.push-in-loop-target.new.self.items c.in_ok-push.ensures.items
          c.loop-target.invariant.4,
      each_view_more (IsTargetOf g.S.Start.held) target_view c.loop-target.yielded c.loop-target.units.items c.push.new.self.items c.in-Some.target
          c.in-Ok.opened c.in_ok-push-in-Ok.ensures.items c.loop-target.invariant.5 c.in-Ok.ensures.units,
    )

pub returns-in-Err-Device-clause-fault : goal.returns-in-Err-Device-clause-fault
returns-in-Err-Device-clause-fault g c = (
  target_view c.in-Some.target,
  target_now _ _ c.in-Some.target (targets_view c.args.configuration.targets.items) c.in-Some.ensures.steps.0 c.loop-target.invariant.3,
  refl,
  subst (IsFaultIn g.S.Start.held _ _) c.in-Err-Device.field-0-is c.in-Err-Device.ensures.fault,
)

pub returns-in-Err-Memory : goal.returns-in-Err-Memory
returns-in-Err-Memory g c = record { listen = tt; log = tt; names = tt; units = tt; fault = tt }

pub returns-in_err-push : goal.returns-in_err-push
returns-in_err-push g c = record {
  listen = IfOk-from_err c.from_residual-in_err-push.result _ c.from_residual-in_err-push.ensures.0;
  log = IfOk-from_err c.from_residual-in_err-push.result _ c.from_residual-in_err-push.ensures.0;
  names = IfOk-from_err c.from_residual-in_err-push.result _ c.from_residual-in_err-push.ensures.0;
  units = IfOk-from_err c.from_residual-in_err-push.result _ c.from_residual-in_err-push.ensures.0;
  fault = out_of_memory g.S.Start.held (targets_view c.args.configuration.targets.items) _ c.from_residual-in_err-push.result
      c.from_residual-in_err-push.ensures.1;
}

pub returns-in_err-push-in-Ok : goal.returns-in_err-push-in-Ok
returns-in_err-push-in-Ok g c = record {
  listen = IfOk-from_err c.from_residual.result _ c.from_residual.ensures.0;
  log = IfOk-from_err c.from_residual.result _ c.from_residual.ensures.0;
  names = IfOk-from_err c.from_residual.result _ c.from_residual.ensures.0;
  units = IfOk-from_err c.from_residual.result _ c.from_residual.ensures.0;
  fault = out_of_memory g.S.Start.held (targets_view c.args.configuration.targets.items) _ c.from_residual.result c.from_residual.ensures.1;
}

pub returns : goal.returns
returns g c =
    let given = c.into_iter-target-iterator.ensures.into_iter_gives in
    let end = YieldsList-end (YieldsList-from_vec {s = c.into_iter-target-iterator.result} c.args.configuration.targets.items given.0 (search rules))
    c.loop-target.yielded c.loop-target.target-iterator c.loop-target.yielded_by c.next.result c.next.new.self c.in-None.is c.next.ensures.steps in
    let all = sym (map-id c.loop-target.yielded) ∙ end.0 in
    record {
      listen = refl;
      log = refl;
      names = c.loop-target.invariant.4 ∙ ap (λ targets. names_of (targets_view targets)) all;
      units = subst (λ targets. AreUnitsOf g.S.Start.held (targets_view targets) c.loop-target.units.items) all c.loop-target.invariant.5;
      fault = tt;
    }
