use Rattle.std.proofs.Common.{◌≡◌, refl, sym, ap, ◌∙◌, arith}
use Rattle.std.proofs.lemmas.Bool.Decides.{nat_tests}
use Rattle.std.proofs.lemmas.Option.{slice_get_read, slice_get_past}
use Rattle.scsi_sense.specs.Nexus.{same_nexus}
use Rattle.scsi_unit.specs.declared.joined.Joined.{Joined}
use Rattle.scsi_unit.proofs.joined.stands_at.Goals as goal

pub returns-else-at-joined : goal.returns-else-at-joined
returns-else-at-joined c = rw (slice_get_past c.args.joined.now c.args.at c.if-at-joined.false) (grind (arith, nat_tests))

pub returns-then-at-joined : goal.returns-then-at-joined
returns-then-at-joined c =
    let same : c.is_same.result ≡ same_nexus c.index-joined-at.result.nexus c.args.nexus.now =
    c.is_same.ensures ∙ ap (λ (j : Joined). same_nexus j.nexus c.args.nexus.now) (sym c.index-joined-at.is) in
    rw (slice_get_read c.args.joined.now _ c.args.at c.index-joined-at.result refl c.if-at-joined.true c.index-joined-at.is)
    (λ yes. sym same ∙ yes, λ yes. same ∙ yes)
