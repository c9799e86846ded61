use Rattle.std.proofs.Common.{refl, sym, subst, ap, ◌∙◌, arith}
use Rattle.std.specs.Prelude.{is_some}
use Rattle.std.proofs.lemmas.List.{length-map}
use Rattle.iscsi_order.specs.WindowState.{WindowKeys, Stands, marked}
use Rattle.iscsi_order.proofs.Held.{within_more}
use Rattle.iscsi_order.proofs.Standing.{none_taken, hands}
use Rattle.iscsi_order.proofs.Keys.{marked_at, turned_marks}
use Rattle.iscsi_order.proofs.window.Window.take.Goals as goal

pub returns-in_err-key-clause-number : goal.returns-in_err-key-clause-number
returns-in_err-key-clause-number c past s =
    let known = subst (λ (w : WindowKeys). Stands past (marked w)) (sym c.self.view_is) s in
    rw (c.from_residual.ensures, none_taken past _ _ _ known (marked_at c.self.inside.held 0 ∙ ap is_some c.in_err-key.was)) refl

pub returns-in_err-key-clause-stands : goal.returns-in_err-key-clause-stands
returns-in_err-key-clause-stands c past s =
    let known = subst (λ (w : WindowKeys). Stands past (marked w)) (sym c.self.view_is) s in
    rw (none_taken past _ _ _ known (marked_at c.self.inside.held 0 ∙ ap is_some c.in_err-key.was)) s

pub invariant_of-self : goal.invariant_of-self
invariant_of-self c = (
  rw (c.turn.ensures.turned, turned_marks c.self.inside.held (omega arith))
      (within_more _ _ (omega (arith, length-map c.self.inside.held is_some)) (marked_at c.self.inside.held 0 ∙ ap is_some c.in_ok-key.was) c.self.invariant.0),
  c.turn.ensures.none,
)

pub returns-clause-number : goal.returns-clause-number
returns-clause-number c past s =
    let known = subst (λ (w : WindowKeys). Stands past (marked w)) (sym c.self.view_is) s in
    ap is_some (sym (hands past _ _ _ known (marked_at c.self.inside.held 0 ∙ ap is_some c.in_ok-key.was)).number)

pub returns-clause-stands : goal.returns-clause-stands
returns-clause-stands c past s =
    let known = subst (λ (w : WindowKeys). Stands past (marked w)) (sym c.self.view_is) s in
    rw (c.turn.ensures.turned, turned_marks c.self.inside.held (omega arith)) (hands past _ _ _ known (marked_at c.self.inside.held 0
    ∙ ap is_some c.in_ok-key.was)).stands
