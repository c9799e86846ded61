use Rattle.std.proofs.lemmas.Option.{IfSome_then}
use Rattle.std.proofs.Common.{◌≡◌, ℕ, ◌<◌, length, subst, ◌==◌, ◌∙◌, Some, ap, rules, tests, sym, arith}
use Rattle.std.proofs.lemmas.Iterator.{YieldsList-from_slice}
use Rattle.std.proofs.lemmas.Iterator.Search.{position_from_yields_List}
use Rattle.scsi_unit.specs.Lun.{lun_number}
use Rattle.std.proofs.lemmas.Grind.{common_steps}
use Rattle.scsi_unit.proofs.units.Units.position.Goals as goal

pub returns-clause-value : goal.returns-clause-value
returns-clause-value g c =
    let number = c.number-number.result in
    let named : lun_number c.args.lun ≡ Some number = sym c.in_ok-named.ensures ∙ ap Some (sym c.number-number.ensures) in
    let found = position_from_yields_List (λ unit. unit.lun == number) _ _ c.position.result c.position.ensures.ran
    (YieldsList-from_slice c.deref.result.now c.iter.ensures.rest) (λ x b q k. search (rules, tests)) in
    rw (named, ← c.self.view_is) (rw c.deref.ensures.value at found)

pub returns-clause-bound : goal.returns-clause-bound
returns-clause-bound g c =
    IfSome_then c.position.result c.position.ensures.bound
    (λ at below. subst (λ (n : ℕ). at < n) (c.iter.ensures.len ∙ ap length (c.deref.ensures.value ∙ c.self.view_is)) below)

pub returns-in_err-named : goal.returns-in_err-named
returns-in_err-named = grind (arith, common_steps)
