use Rattle.std.proofs.Common.{◌≡◌, ◌∙◌, pos}
use Rattle.std.specs.Ordering.{int_eq}
use Rattle.std.specs.List.{list_any}
use Rattle.target_config.proofs.Lists.{list_any-luns}
use Rattle.target_config.proofs.distinct.has_lun_zero.Goals as goal

pub returns : goal.returns
returns c =
    let found : c.are_with_zero.result ≡ list_any (λ unit. int_eq unit.lun (pos 0)) c.args.target.now.units.items =
    rw (← c.as_slice.ensures.value) c.are_with_zero.ensures in
    found ∙ list_any-luns (pos 0) c.args.target.now.units.items
