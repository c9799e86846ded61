use Rattle.std.proofs.Common.{ℕ, Option, refl, sym, subst, arith}
use Rattle.std.specs.Prelude.{is_some}
use Rattle.std.proofs.lemmas.List.Sums.{prefix_len-le-length}
use Rattle.iscsi_order.specs.WindowState.{WindowKeys, Stands, marked}
use Rattle.iscsi_order.proofs.Keys.{prefix_marked}
use Rattle.iscsi_order.proofs.Standing.{expected, last}
use Rattle.iscsi_order.proofs.window.Window.numbers.Goals as goal

pub overflow_cast-ahead : goal.overflow_cast-ahead
overflow_cast-ahead c = let le = prefix_len-le-length (λ (key : Option ℕ). is_some key) c.self.inside.held in omega arith

pub returns : goal.returns
returns c past s =
    let known = subst (λ (w : WindowKeys). Stands past (marked w)) (sym c.self.view_is) s in
    rw (c.front-ahead.ensures, prefix_marked c.self.inside.held, expected past _ _ _ known, last past _ _ _ known c.self.invariant.0.few) refl
