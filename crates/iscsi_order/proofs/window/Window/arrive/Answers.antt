use Rattle.std.proofs.Common.{◌≡◌, ◌-◌, ◌<◌, get_or, Some, None, map, Bool, true, false, refl, sym, ap, ◌∙◌, subst, arith}
use Rattle.std.specs.Prelude.{is_some, if◌then◌else◌}
use Rattle.std.proofs.lemmas.List.{map-set}
use Rattle.iscsi_order.specs.Window.{window}
use Rattle.iscsi_order.specs.WindowState.{WindowKeys, Stands, marked, is_vacant, with_key}
use Rattle.iscsi_order.specs.declared.window.Arrival.TheVariants.{New, Ignored}
use Rattle.iscsi_order.proofs.Held.{within_set}
use Rattle.iscsi_order.proofs.Standing.{arrives, ignored}
use Rattle.iscsi_order.proofs.Keys.{ahead, marked_at, not_vacant, vacant, keyed, still_none}
use Rattle.iscsi_order.proofs.window.Window.arrive.Goals as goal
use Rattle.iscsi_order.proofs.window.Window.arrive.Goals.{then-ahead-self-via-then-ahead-self, then-ahead-self-via-else-ahead-self+then-is_some}

-- it is outside the window, or has come
abbrev IsOld : goal.Joined-then-ahead-self → Type 0
IsOld c =
    let place = ahead c.self.inside.next c.args.n in
    place < window - c.self.inside.unfinished → is_some (get_or c.self.inside.held place None) ≡ true

is_old : (c : goal.Joined-then-ahead-self) → IsOld c
is_old c = elim c.then-ahead-self.branch [
  | then-ahead-self-via-then-ahead-self w ↦ λ near. absurd (let far = w.if-ahead-self.true in omega arith)
  | then-ahead-self-via-else-ahead-self+then-is_some w ↦ λ near. sym w.is_some.ensures ∙ w.if-is_some.true
]

old : (c : goal.Joined-then-ahead-self) → is_vacant c.args.self.now c.args.n ≡ false
old c = rw (← c.self.view_is) (not_vacant c.self.inside.next c.self.inside.unfinished c.args.n c.self.inside.held (omega arith) (omega arith) (is_old c))

pub returns-then-ahead-self-clause-arrival : goal.returns-then-ahead-self-clause-arrival
returns-then-ahead-self-clause-arrival c past s =
    let known = subst (λ (w : WindowKeys). Stands past (marked w)) (sym c.self.view_is) s in
    rw (ignored past c.args.n _ _ _ known (omega arith) (omega arith) (λ near. marked_at c.self.inside.held _ ∙ is_old c near)) refl

pub returns-then-ahead-self-clause-stands : goal.returns-then-ahead-self-clause-stands
returns-then-ahead-self-clause-stands c past s =
    let known = subst (λ (w : WindowKeys). Stands past (marked w)) (sym c.self.view_is) s in
    rw (ignored past c.args.n _ _ _ known (omega arith) (omega arith) (λ near. marked_at c.self.inside.held _ ∙ is_old c near)) s

pub returns-then-ahead-self-clause-vacant : goal.returns-then-ahead-self-clause-vacant
returns-then-ahead-self-clause-vacant c = rw (old c) refl

pub returns-then-ahead-self-clause-key : goal.returns-then-ahead-self-clause-key
returns-then-ahead-self-clause-key c = rw (old c) refl

pub invariant_of-self : goal.invariant_of-self
invariant_of-self c = (
  rw (map-set is_some c.self.inside.held (ahead c.self.inside.next c.args.n) (Some c.args.key))
      (within_set c.self.inside.unfinished (ahead c.self.inside.next c.args.n) (map is_some c.self.inside.held) (omega arith) c.self.invariant.0),
  still_none c.self.inside.is_ahead _ c.args.key c.self.inside.held _ c.self.invariant.1,
)

pub returns-clause-arrival : goal.returns-clause-arrival
returns-clause-arrival c past s =
    let known = subst (λ (w : WindowKeys). Stands past (marked w)) (sym c.self.view_is) s in
    rw (arrives past c.args.n _ _ _ known (omega arith) (omega arith) (omega arith) (marked_at c.self.inside.held _ ∙ sym c.is_some.ensures
    ∙ c.if-is_some.false)).is_new refl

pub returns-clause-stands : goal.returns-clause-stands
returns-clause-stands c past s =
    let known = subst (λ (w : WindowKeys). Stands past (marked w)) (sym c.self.view_is) s in
    rw (map-set is_some c.self.inside.held (ahead c.self.inside.next c.args.n) (Some c.args.key))
    (arrives past c.args.n _ _ _ known (omega arith) (omega arith) (omega arith) (marked_at c.self.inside.held _ ∙ sym c.is_some.ensures
    ∙ c.if-is_some.false)).stands

pub returns-clause-vacant : goal.returns-clause-vacant
returns-clause-vacant c =
    let new = vacant c.self.inside.next c.self.inside.unfinished c.args.n c.self.inside.held (omega arith) (omega arith) (omega arith)
    (sym c.is_some.ensures ∙ c.if-is_some.false) in
    ap (λ (b : Bool). if b then New else Ignored) (sym new) ∙ ap (λ (w : WindowKeys). if is_vacant w c.args.n then New else Ignored) c.self.view_is

pub returns-clause-key : goal.returns-clause-key
returns-clause-key c =
    keyed c.self.inside.next c.self.inside.unfinished c.args.n c.args.key c.self.inside.held (omega arith) (omega arith)
    (vacant c.self.inside.next c.self.inside.unfinished c.args.n c.self.inside.held (omega arith) (omega arith) (omega arith) (sym c.is_some.ensures
    ∙ c.if-is_some.false))
    ∙ ap (λ (w : WindowKeys). with_key c.args.n c.args.key w) c.self.view_is
