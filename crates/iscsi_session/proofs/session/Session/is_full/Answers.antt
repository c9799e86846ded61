use Rattle.std.proofs.Common.{◌≡◌, ◌+◌, ◌-◌, ◌^◌, min, leb, ltb, not, ℕ, Bool, refl, sym, subst, ◌∙◌, arith}
use Rattle.iscsi_requests.specs.State.{SessionState, Stands, immediate_transfers, immediate_functions}
use Rattle.iscsi_session.proofs.Feeding.{full_is}
use Rattle.iscsi_session.proofs.session.Session.is_full.Goals as goal

most_by : (b : Bool) (n r : ℕ) → ltb n 8 ≡ b → r ≡ min n (2 ^ 64 - 1) → leb 8 r ≡ not b
most_by b n r e is = grind arith

pub returns : goal.returns
returns c past s =
    let known = subst (λ (x : SessionState). Stands past x) (sym c.self.view_is) s in
    most_by _ (immediate_transfers c.self.inside.transfers.list + immediate_functions c.self.inside.functions) c.saturating_add.result refl
    (omega (arith, c.saturating_add.ensures, c.immediate.ensures, c.immediate-2.ensures))
    ∙ full_is past _ known
