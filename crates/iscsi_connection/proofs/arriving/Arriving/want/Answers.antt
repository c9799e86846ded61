use Rattle.std.proofs.Common.{sym, ap, ◌∙◌, inl, inr}
use Rattle.std.proofs.lemmas.Bool.{cases_Bool}
use Rattle.iscsi_world.proofs.Choices.{cond_true, cond_false}
use Rattle.iscsi_pdu.specs.Frames.{wanted}
use Rattle.iscsi_connection.specs.Arriving.{ArrivingState}
use Rattle.iscsi_connection.proofs.Counting.{wanted_counted}
use Rattle.iscsi_connection.proofs.arriving.Arriving.want.Goals as goal

pub returns : goal.returns
returns c =
    let is = ap (λ (a : ArrivingState). wanted a.bytes) c.self.view_is in
    elim (cases_Bool c.self.inside.is_counted) [
      | inl counted ↦ c.want.ensures.value ∙ wanted_counted _ _ (c.self.invariant counted) ∙ ap wanted (sym (cond_true _ _ _ counted)) ∙ is
      | inr kept ↦ c.want.ensures.value ∙ ap wanted (sym (cond_false _ _ _ kept)) ∙ is
    ]
