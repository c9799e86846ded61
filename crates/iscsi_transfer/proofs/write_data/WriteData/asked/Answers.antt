use Rattle.std.proofs.Common.{[], ◌∷◌, ap, sym, ◌∙◌}
use Rattle.iscsi_transfer.specs.WriteData.{WriteDataState, with_asked}
use Rattle.iscsi_transfer.proofs.Standing.{remembered-asked}
use Rattle.iscsi_transfer.proofs.Blank.{long_of, asked_same, asked_payload}
use Rattle.iscsi_transfer.proofs.write_data.WriteData.asked.Goals as goal

pub returns-clause-same : goal.returns-clause-same
returns-clause-same c =
    ap (λ (t : WriteDataState). record t { payload = c.self.inside.payload }) c.asked.ensures
    ∙ asked_same c.self.inside.progress c.self.inside.payload (c.args.tag ∷ []) (long_of _ _ c.self.invariant)
    ∙ ap (with_asked (c.args.tag ∷ [])) c.self.view_is

pub returns-clause-stands : goal.returns-clause-stands
returns-clause-stands c past e =
    returns-clause-same c ∙ ap (with_asked (c.args.tag ∷ [])) e ∙ sym (remembered-asked past (c.args.tag ∷ []))

pub invariant_of-self : goal.invariant_of-self
invariant_of-self c =
    ap (λ (t : WriteDataState). t.payload) c.asked.ensures ∙ asked_payload c.self.inside.progress (c.args.tag ∷ []) ∙ c.self.invariant
