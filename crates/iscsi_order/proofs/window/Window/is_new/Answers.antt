use Rattle.std.proofs.Common.{◌≡◌, ℕ, ◌-◌, ◌^◌, ◌<◌, List, get_or, map, Option, None, Bool, true, false, not, refl, sym, ap, subst, ◌∙◌, arith}
use Rattle.std.specs.Prelude.{is_some}
use Rattle.std.proofs.lemmas.Bool.{le-ltb}
use Rattle.iscsi_order.specs.Window.{window, Past, is_new}
use Rattle.iscsi_order.specs.WindowState.{WindowKeys, Stands, marked, is_vacant}
use Rattle.iscsi_order.proofs.Standing.{arrives, ignored}
use Rattle.iscsi_order.proofs.Keys.{ahead, marked_at, not_vacant, vacant}
use Rattle.iscsi_order.proofs.window.Window.is_new.Goals as goal

-- inside the window it is new where it has not come
new_inside : (past : Past) (n next unfinished : ℕ) (keys : List (Option ℕ)) (b : Bool)
    → Stands past (record { next = next; unfinished = unfinished; held = map is_some keys }) → n < 2 ^ 32 → next < 2 ^ 32
    → ahead next n < window - unfinished → is_some (get_or keys (ahead next n) None) ≡ b → not b ≡ is_new past n
new_inside past n next unfinished keys true s fits small near come = sym
    (ignored past n next unfinished (map is_some keys) s fits small (λ _. marked_at keys (ahead next n) ∙ come))
new_inside past n next unfinished keys false s fits small near missing = sym
    (arrives past n next unfinished (map is_some keys) s fits small near (marked_at keys (ahead next n) ∙ missing)).is_new

vacant_inside : (n next unfinished : ℕ) (keys : List (Option ℕ)) (b : Bool) → n < 2 ^ 32 → next < 2 ^ 32 → ahead next n < window - unfinished
    → is_some (get_or keys (ahead next n) None) ≡ b
    → not b ≡ is_vacant (record { next = next; unfinished = unfinished; keys = keys }) n
vacant_inside n next unfinished keys true fits small near come = sym (not_vacant next unfinished n keys fits small (λ _. come))
vacant_inside n next unfinished keys false fits small near missing = sym (vacant next unfinished n keys fits small near missing)

turn : (some none : Bool) → some ≡ not none → none ≡ not some
turn true true e = absurd cc
turn true false e = refl
turn false true e = refl
turn false false e = absurd cc

pub returns-then-place-self-clause-past : goal.returns-then-place-self-clause-past
returns-then-place-self-clause-past c past s =
    let known = subst (λ (w : WindowKeys). Stands past (marked w)) (sym c.self.view_is) s in
    turn _ _ c.is_none.ensures ∙ new_inside past c.args.n _ _ c.self.inside.held _ known (omega arith) (omega arith) (omega arith) refl

pub returns-then-place-self-clause-vacant : goal.returns-then-place-self-clause-vacant
returns-then-place-self-clause-vacant c =
    turn _ _ c.is_none.ensures ∙ vacant_inside c.args.n _ _ c.self.inside.held _ (omega arith) (omega arith) (omega arith) refl
    ∙ ap (λ (w : WindowKeys). is_vacant w c.args.n) c.self.view_is

pub returns-else-place-self-clause-past : goal.returns-else-place-self-clause-past
returns-else-place-self-clause-past c past s =
    let known = subst (λ (w : WindowKeys). Stands past (marked w)) (sym c.self.view_is) s in
    le-ltb _ _ c.if-place-self.false ∙ sym (ignored past c.args.n _ _ _ known (omega arith) (omega arith) (λ near. absurd (let far = c.if-place-self.false
    in omega arith)))

pub returns-else-place-self-clause-vacant : goal.returns-else-place-self-clause-vacant
returns-else-place-self-clause-vacant c =
    le-ltb _ _ c.if-place-self.false ∙ sym
    (not_vacant _ _ c.args.n c.self.inside.held (omega arith) (omega arith) (λ near. absurd (let far = c.if-place-self.false in omega arith)))
    ∙ ap (λ (w : WindowKeys). is_vacant w c.args.n) c.self.view_is
