use Rattle.std.proofs.Common.{◌∙◌, List, [], ◌∷◌, ◌++◌, Some, None, refl, ap, append_assoc}
use Rattle.iscsi_ports.specs.Log.{Entry, Polled, AcceptFailed}
use Rattle.iscsi_serve.specs.Turn.{moment, beginning, told}
use Rattle.iscsi_serve.proofs.Goings.{none_ended_by}
use Rattle.iscsi_serve.proofs.Keeping.{keeps_then, keeps_told}
use Rattle.iscsi_serve.proofs.serving.turn_with.Goals as goal

pub returns-in-Err-clause-turned : goal.returns-in-Err-clause-turned
returns-in-Err-clause-turned g c = λ tells.
    (told (Polled None) (beginning c.args.target.now (g.P.Ports.log c.args.ports.now)), rw c.in-Err.is at (c.poll.ensures.log tells), refl, refl)

pub returns-in-Err-clause-keeps : goal.returns-in-Err-clause-keeps
returns-in-Err-clause-keeps g c =
    keeps_told _ _ _ _ _ (Polled None) refl (λ rows. refl) c.poll.ensures.back (λ tells. rw c.in-Err.is at (c.poll.ensures.log tells))

pub returns-in-Ok-accept_named-clause-turned : goal.returns-in-Ok-accept_named-clause-turned
returns-in-Ok-accept_named-clause-turned g c = λ tells.
    (let named = c.in-Ok.named in
    let log = g.P.Ports.log c.args.ports.now in
    let accept_tells = c.carry.ensures.keeps.back tells in
    let polled = c.poll.ensures.log (c.accept_named.ensures.keeps.back accept_tells) in
    let accepted = c.in-Ok-accept_named.ensures.ok accept_tells log (Polled (Some named) ∷ []) (rw c.in-Ok.is at polled)
    (none_ended_by (Polled (Some named) ∷ []) (λ d. refl)) in
    let carried = c.carry.ensures.carries tells log accepted.0 accepted.1 accepted.2 in
    (moment c.carry.new.target log carried.0, carried.1, refl, record { named = named; accepted = _; accepts = accepted.3; carries = carried.2 }))

pub returns-in-Ok-accept_named-clause-keeps : goal.returns-in-Ok-accept_named-clause-keeps
returns-in-Ok-accept_named-clause-keeps g c =
    keeps_then _ _ _ _ _ _ _ _ _
    (keeps_told _ _ _ _ _ (Polled (Some c.in-Ok.named)) refl (λ rows. refl) c.poll.ensures.back (λ tells. rw c.in-Ok.is at (c.poll.ensures.log tells)))
    (keeps_then _ _ _ _ _ _ _ _ _ c.accept_named.ensures.keeps c.carry.ensures.keeps)

pub returns-in-Err-accept_named-clause-turned : goal.returns-in-Err-accept_named-clause-turned
returns-in-Err-accept_named-clause-turned g c = λ tells.
    (let named = c.in-Ok.named in
    let log = g.P.Ports.log c.args.ports.now in
    let failed = c.in-Err-accept_named.ensures.failed in
    let polled = rw c.in-Ok.is at (c.poll.ensures.log (c.accept_named.ensures.keeps.back tells)) in
    let both = failed.3 tells ∙ ap (λ (log : List Entry). log ++ AcceptFailed ∷ []) polled ∙ append_assoc log (Polled (Some named) ∷ []) (AcceptFailed ∷ []) in
    (told AcceptFailed (told (Polled (Some named)) (beginning c.args.target.now log)), both, failed.2, rw failed.0 (named, failed.1, refl)))

pub returns-in-Err-accept_named-clause-keeps : goal.returns-in-Err-accept_named-clause-keeps
returns-in-Err-accept_named-clause-keeps g c =
    keeps_then _ _ _ _ _ _ _ _ _
    (keeps_told _ _ _ _ _ (Polled (Some c.in-Ok.named)) refl (λ rows. refl) c.poll.ensures.back (λ tells. rw c.in-Ok.is at (c.poll.ensures.log tells)))
    c.accept_named.ensures.keeps
