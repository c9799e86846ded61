-- What a target is made with, by what was opened.
use Rattle.std.proofs.Common.{◌≡◌, suc, List, [], ◌∷◌, length, map, refl, sym, ap, ◌∙◌}
use Rattle.std.specs.Prelude.{String, string_bytes}
use Rattle.std.specs.declared.alloc.Global.{Global}
use Rattle.std.proofs.lemmas.List.{length-map}
use Rattle.scsi_unit.specs.Units.{UnitStates}
use Rattle.iscsi_target.specs.Known.{known_in}
use Rattle.iscsi_target.specs.declared.config.Config.{Config}
use Rattle.target_config.specs.Configuration.{Document, TargetEntry, names_of}
use Rattle.target_units.specs.Opened.{Held, AreUnitsOf}
use Rattle.target_units.specs.Refusal.{Refusal}
use Rattle.target_units.specs.Unopened.{IsUnopened as AreUnopened}
use Rattle.target_units.specs.declared.fault.OpenFault.{OpenFault}
use Rattle.target_units.specs.declared.fault.OpenFault.TheVariants as opens
use Rattle.target_serving.specs.Fault.{opening_fault}
use Rattle.targetd.specs.Run.{known_of}
use Rattle.targetd.specs.Unopened.{IsUnopened}

-- a target is made with units for each of its names
pub as_many : (held : Held) (targets : List TargetEntry) (units : List UnitStates) (names : List (String Global)) → AreUnitsOf held targets units
    → map string_bytes names ≡ names_of targets → length units ≡ length names
as_many held targets units names opened e =
    as_long targets units opened ∙ sym (length-map targets (λ target. target.name)) ∙ sym (ap length e) ∙ length-map names string_bytes
  where
    as_long : (targets : List TargetEntry) (units : List UnitStates) → AreUnitsOf held targets units → length units ≡ length targets
    as_long [] [] h = refl
    as_long [] (u ∷ us) h = absurd h
    as_long (t ∷ ts) [] h = absurd h
    as_long (t ∷ ts) (u ∷ us) h = ap suc (as_long ts us h.1)

-- ---- the targets and their portal

pub known_is : (config : Config) (document : Document) → map string_bytes config.targets.items ≡ names_of document.targets
    → string_bytes config.listen ≡ document.listen → known_in config ≡ known_of document
known_is config document names listen = rw (names, listen) refl

-- ---- why nothing is made

pub unopened_told : (held : Held) (targets : List TargetEntry) (refused : Refusal) (why : OpenFault) → AreUnopened held targets refused why
    → IsUnopened held targets refused (opening_fault why)
unopened_told held targets refused (opens.Device name lun cause) is = (cause, is)
unopened_told held targets refused opens.Memory is = tt
