-- Names of nexuses, compared.
use Rattle.std.proofs.Common.{◌≡◌, ℕ, List, Bool, true, false, ◌&&◌, refl, sym, ap, ◌∙◌}
use Rattle.std.specs.Str.{bytes_eq}
use Rattle.std.proofs.lemmas.Bool.{false≢true}
use Rattle.std.proofs.lemmas.Bool.Decides.{same_from_decides}
use Rattle.std.proofs.lemmas.Slice.Eq.{bytes_eq-Decides}
use Rattle.scsi_sense.specs.Nexus.{NexusName, same_nexus}

bytes_eq-sym : (xs ys : List ℕ) → bytes_eq xs ys ≡ bytes_eq ys xs
bytes_eq-sym xs ys =
    let back = bytes_eq-Decides ys xs in
    same_from_decides {P = xs ≡ ys} (bytes_eq xs ys) (bytes_eq ys xs) (bytes_eq-Decides xs ys) (λ h. sym (back.0 h), λ e. back.1 (sym e))

pub same_nexus-sym : (a b : NexusName) → same_nexus a b ≡ same_nexus b a
same_nexus-sym a b =
    ap (λ (t : Bool). t && bytes_eq a.isid b.isid) (bytes_eq-sym a.initiator_name b.initiator_name)
    ∙ ap (λ (t : Bool). bytes_eq b.initiator_name a.initiator_name && t) (bytes_eq-sym a.isid b.isid)

both : (s t : Bool) → (s && t) ≡ true → (s ≡ true) × (t ≡ true)
both true t h = (refl, h)
both false t h = (h, absurd (false≢true h))

-- the same name is one name
pub same_nexus-true : (a b : NexusName) → same_nexus a b ≡ true → a ≡ b
same_nexus-true a b same =
    let p = both (bytes_eq a.initiator_name b.initiator_name) (bytes_eq a.isid b.isid) same in
    ap (λ (name : List ℕ). let n : NexusName = record a { initiator_name = name } in n) ((bytes_eq-Decides a.initiator_name b.initiator_name).0 p.0)
    ∙ ap (λ (isid : List ℕ). let n : NexusName = record b { isid = isid } in n) ((bytes_eq-Decides a.isid b.isid).0 p.1)
