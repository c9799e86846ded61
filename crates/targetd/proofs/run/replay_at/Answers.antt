use Rattle.std.proofs.Common.{inr, refl, ap}
use Rattle.iscsi_target.specs.Machine.{Machine}
use Rattle.target_config.specs.Configuration.{configuration_view, targets_view}
use Rattle.targetd.proofs.Made.{as_many}
use Rattle.targetd.proofs.Ending.{early_fault, early_memory, early_unopened, made_stands, replay_early, replay_ends, replay_fails}
use Rattle.targetd.proofs.run.replay_at.Goals as goal

pub new-requires : goal.new-requires
new-requires g c =
    as_many g.S.Start.held (targets_view c.in_ok-configuration.configuration.targets.items) c.in_ok-config.field-0.units.items
    c.in_ok-config.field-0.config.targets.items c.in_ok-config.ensures.units c.in_ok-config.ensures.names

pub returns-in_err-configuration-clause-ends : goal.returns-in_err-configuration-clause-ends
returns-in_err-configuration-clause-ends g c =
    replay_early _ _ _ _ _ c.from_residual.result _ c.from_residual.ensures.1
    (early_fault _ _ _ c.in_err-configuration.field-0.0 c.in_err-configuration.ensures.refused)

pub returns-in_err-config-clause-ends : goal.returns-in_err-config-clause-ends
returns-in_err-config-clause-ends g c =
    replay_early _ _ _ _ _ c.from_residual-in_err-config.result c.in_err-config.field-0.0 c.from_residual-in_err-config.ensures.1
    (early_unopened _ _ _ (configuration_view c.in_ok-configuration.configuration) _ c.in_ok-configuration.ensures.read c.in_err-config.ensures.fault)

pub returns-in_err-target-clause-ends : goal.returns-in_err-target-clause-ends
returns-in_err-target-clause-ends g c =
    replay_early _ _ _ _ _ c.from_residual-in_err-target.result _ c.from_residual-in_err-target.ensures.1 (early_memory _ _ _)

pub returns-in_err-ended-clause-ends : goal.returns-in_err-ended-clause-ends
returns-in_err-ended-clause-ends g c =
    rw c.in_ok-configuration.ensures.read
    (inr (replay_fails g.S.Start.held _ _ _ _ _ (configuration_view c.in_ok-configuration.configuration) c.in_ok-config.field-0.units.items
    c.new-engine.result.target
    c.replay-ended.new.engine.target c.into_target.result c.from_residual-in_err-ended.result c.in_err-ended.field-0.0 c.from_residual-in_err-ended.ensures.1
    c.in_ok-config.ensures.units refl c.into_target.ensures
    (rw c.new-engine.ensures.target (made_stands _ c.in_ok-target.target (rw (c.in_ok-config.ensures.names, c.in_ok-config.ensures.listen) at c.in_ok-target.ensures.stands)))
    (rw c.new-engine.ensures.target (ap (λ (m : Machine). m.units) c.in_ok-target.ensures.made)) c.replay-ended.ensures.sure c.in_err-ended.ensures.fails
    c.in_err-ended.ensures.stops))

pub returns-clause-ends : goal.returns-clause-ends
returns-clause-ends g c =
    rw c.in_ok-configuration.ensures.read
    (inr (replay_ends g.S.Start.held _ _ _ _ _ (configuration_view c.in_ok-configuration.configuration) c.in_ok-config.field-0.units.items
    c.new-engine.result.target
    c.replay-ended.new.engine.target c.into_target.result c.in_ok-config.ensures.units refl c.into_target.ensures
    (rw c.new-engine.ensures.target (made_stands _ c.in_ok-target.target (rw (c.in_ok-config.ensures.names, c.in_ok-config.ensures.listen) at c.in_ok-target.ensures.stands)))
    (rw c.new-engine.ensures.target (ap (λ (m : Machine). m.units) c.in_ok-target.ensures.made)) c.replay-ended.ensures.sure c.in_ok-ended.ensures.done
    c.in_ok-ended.ensures.came))
