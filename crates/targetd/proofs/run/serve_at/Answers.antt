use Rattle.std.proofs.Common.{ap}
use Rattle.std.specs.Prelude.{option_map, string_bytes}
use Rattle.target_config.specs.Configuration.{configuration_view, targets_view}
use Rattle.targetd.proofs.Made.{as_many}
use Rattle.targetd.proofs.Ending.{early_fault, early_unopened, serving_early}
use Rattle.targetd.proofs.run.serve_at.Goals as goal

pub serve_setup-requires : goal.serve_setup-requires
serve_setup-requires g c = record {
  as_many = as_many g.S.Start.held (targets_view c.in_ok-configuration.configuration.targets.items) c.in_ok-setup.setup.units.items
      c.in_ok-setup.setup.config.targets.items c.in_ok-setup.ensures.units c.in_ok-setup.ensures.names;
  unbound = c.forget_start.ensures.unbound;
  logged = c.forget_start.ensures.logged;
}

pub returns-in_err-configuration-clause-ends : goal.returns-in_err-configuration-clause-ends
returns-in_err-configuration-clause-ends g c =
    serving_early _ _ _ _ _ c.from_residual.result _ c.from_residual.ensures.1
    (early_fault _ _ _ c.in_err-configuration.field-0.0 c.in_err-configuration.ensures.refused)

pub returns-in_err-setup-clause-ends : goal.returns-in_err-setup-clause-ends
returns-in_err-setup-clause-ends g c =
    serving_early _ _ _ _ _ c.from_residual-in_err-setup.result c.in_err-setup.field-0.0 c.from_residual-in_err-setup.ensures.1
    (early_unopened _ _ _ (configuration_view c.in_ok-configuration.configuration) _ c.in_ok-configuration.ensures.read c.in_err-setup.ensures.fault)

pub returns-clause-ends : goal.returns-clause-ends
returns-clause-ends g c =
    rw c.in_ok-configuration.ensures.read
    (c.serve_setup.ensures.ends (configuration_view c.in_ok-configuration.configuration) c.in_ok-setup.ensures.listen
    (ap (option_map string_bytes) c.in_ok-setup.ensures.log) c.in_ok-setup.ensures.names c.in_ok-setup.ensures.units)
